-- A text cut at a byte.
use Rattle.std.{specs.Prelude.{ℕ, ◌+◌, ◌==◌, List, Option, option_map, take, drop}, specs.List.position}

-- what is before the first such byte of a text, and after it, if there is one
abbrev pub cut : ℕ → List ℕ → Option (List ℕ × List ℕ)
cut c text = option_map (λ k. (take k text, drop (k + 1) text)) (position (λ b. b == c) text)
