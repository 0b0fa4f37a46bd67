-- Nodes, as a caller hands them in.
use Rattle.std.specs.Prelude.{◌≡◌, ◌≢◌, ℕ, ◌==◌, true, false, List, [], Option, Some, None, Result, Ok, Err}
use Rattle.std.specs.{Prelude.if◌then◌else◌, Net.Grammar.IsIpText, declared.net.ip_addr.IpAddr.IpAddr}
use Rattle.gateway_hops.specs.{Nodes.is_obfuscated, declared.node.{Node.Node, NodeName.{NodeName, TheVariants.Address}}}
use Rattle.gateway_hops.specs.declared.node.{NodeName.TheVariants.{Unknown, Hidden}, NodePort.NodePort}
use Rattle.{gateway_hops.specs.declared.node.NodePort.TheVariants.Number, c_parts.specs.declared.status.Failure.Failure}
use Rattle.c_parts.specs.declared.status.Failure.TheVariants.{Refused, Memory, Absent, TooLarge}

-- an identifier that hides a node (RFC 7239, section 6.3); `Refused` only if the text is none
abbrev pub IsHiddenOf : List ℕ → Result (List ℕ) Failure → Type 0
IsHiddenOf text (Ok hidden) = (is_obfuscated text ≡ true) × (hidden ≡ text)
IsHiddenOf text (Err Refused) = is_obfuscated text ≡ false
IsHiddenOf text (Err Memory) = is_obfuscated text ≡ true
IsHiddenOf text (Err Absent) = ⊥
IsHiddenOf text (Err TooLarge) = ⊥

-- what identifies a node: an IP address without brackets, an identifier that hides it, or nothing, which the empty text
-- says
abbrev pub IsNodeNameOf : List ℕ → Result NodeName Failure → Type 0
IsNodeNameOf text (Ok (Address ip)) = IsIpText text ip
IsNodeNameOf text (Ok Unknown) = text ≡ []
IsNodeNameOf text (Ok (Hidden name)) = (is_obfuscated text ≡ true) × (name ≡ text)
IsNodeNameOf text (Err Refused) =
    (text ≢ []) × ((ip : IpAddr) → ¬ (IsIpText text ip)) × (is_obfuscated text ≡ false)
IsNodeNameOf text (Err Memory) = is_obfuscated text ≡ true
IsNodeNameOf text (Err Absent) = ⊥
IsNodeNameOf text (Err TooLarge) = ⊥

-- the port of a number; 0 says that it isn't told
abbrev pub port_of : ℕ → Option NodePort
port_of number = if number == 0 then None else Some (Number number)

abbrev pub IsNodeOf : List ℕ → ℕ → Result Node Failure → Type 0
IsNodeOf text port (Ok node) = IsNodeNameOf text (Ok node.name) × (node.port ≡ port_of port)
IsNodeOf text port (Err failure) = IsNodeNameOf text (Err failure)

-- the node, or none if the text is empty
abbrev pub IsOptionalNodeOf : List ℕ → ℕ → Result (Option Node) Failure → Type 0
IsOptionalNodeOf text port (Ok None) = text ≡ []
IsOptionalNodeOf text port (Ok (Some node)) = (text ≢ []) × IsNodeOf text port (Ok node)
IsOptionalNodeOf text port (Err failure) = IsNodeOf text port (Err failure)
