-- Identifiers that hide a node are text.
use Rattle.std.{proofs.Common.{◌≡◌, ℕ, ◌<◌, true, List, [], ◌∷◌, arith, rules}, specs.List.list_all, specs.Str.IsUtf8}
use Rattle.std.{proofs.lemmas.List.Elements.{All-cons, All-weaker}, proofs.lemmas.List.Sums.AllPass-from_list_all}
use Rattle.std.{proofs.lemmas.Str.{IsUtf8-from_ascii, IsUtf8-nil}, proofs.lemmas.Str.Ascii.IsAscii-from_all}
use Rattle.gateway_hops.specs.Nodes.{is_obfuscated, is_obfuscated_byte}

obfuscated_byte_ascii : (b : ℕ) → is_obfuscated_byte b ≡ true → b < 128
obfuscated_byte_ascii b e = search rules

pub IsUtf8-obfuscated : (text : List ℕ) → is_obfuscated text ≡ true → IsUtf8 text
IsUtf8-obfuscated [] e = IsUtf8-nil
IsUtf8-obfuscated (b ∷ s) e =
    let first : b ≡ 95 = search rules in
    let rest : list_all is_obfuscated_byte s ≡ true = search rules in
    IsUtf8-from_ascii (b ∷ s) (IsAscii-from_all (b ∷ s) (All-cons (λ byte. byte < 128) b s (omega (arith, first))
    (All-weaker (λ byte. is_obfuscated_byte byte ≡ true) (λ byte. byte < 128) obfuscated_byte_ascii s
    (AllPass-from_list_all is_obfuscated_byte s rest))))
