-- Node identifiers (RFC 7239, section 6).
use Rattle.std.specs.Prelude.{ℕ, ◌==◌, Bool, false, ◌||◌, ◌&&◌, not, List, [], ◌∷◌, ◌++◌, length, Option, Some, None}
use Rattle.std.specs.{Prelude.{codes, decimal}, Char.is_ascii_alphanumeric, List.list_all, Net.Addr.ipv4_octets}
use Rattle.std.specs.Net.{Addr.ipv6_segments, Text.{ip_text, ipv4_text, ipv6_text}}
use Rattle.std.specs.declared.net.{ip_addr.IpAddr.TheVariants.{V4, V6}, ipv6_addr.Ipv6Addr.Ipv6Addr}
use Rattle.{headers.specs.Lines.Line, gateway_hops.specs.declared.node.{Node.Node, NodeName.NodeName}}
use Rattle.gateway_hops.specs.declared.node.{NodeName.TheVariants.{Address, Unknown, Hidden}, NodePort.NodePort}
use Rattle.gateway_hops.specs.declared.node.NodePort.TheVariants as Port

-- ALPHA / DIGIT / "." / "_" / "-"
abbrev pub is_obfuscated_byte : ℕ → Bool
is_obfuscated_byte b = is_ascii_alphanumeric b || (b == 46 || (b == 95 || b == 45))

-- obfnode and obfport: an underscore, and then such bytes, at least one (section 6.3)
abbrev pub is_obfuscated : List ℕ → Bool
is_obfuscated [] = false
is_obfuscated (b ∷ s) = b == 95 && (not (length s == 0) && list_all is_obfuscated_byte s)

abbrev pub bracketed_text : Ipv6Addr → Line
bracketed_text ip = codes "[" ++ (ipv6_text (ipv6_segments ip) ++ codes "]")

-- nodename: an IPv6 address is in brackets
abbrev pub name_text : NodeName → Line
name_text (Address (V4 ip)) = ipv4_text (ipv4_octets ip)
name_text (Address (V6 ip)) = bracketed_text ip
name_text Unknown = codes "unknown"
name_text (Hidden name) = name

-- node-port, with the colon before it
abbrev pub port_text : Option NodePort → Line
port_text None = []
port_text (Some (Port.Number port)) = codes ":" ++ decimal port
port_text (Some (Port.Hidden port)) = codes ":" ++ port

-- node = nodename [ ":" node-port ]
abbrev pub node_text : Node → Line
node_text node = name_text node.name ++ port_text node.port

-- the name in X-Forwarded-For: an address without brackets (section 7.4)
abbrev pub bare_text : NodeName → Line
bare_text (Address ip) = ip_text ip
bare_text Unknown = codes "unknown"
bare_text (Hidden name) = name
