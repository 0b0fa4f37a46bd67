use Rattle.std.{proofs.Common.{◌≡◌, ◌≢◌, ◌++◌, List, [], ◌∷◌, ap, arith, ℕ, sym, ◌∙◌}, proofs.lemmas.Str.encode_ascii}
use Rattle.std.specs.Prelude.{encode_utf8, slice_index}
use Rattle.server_files.proofs.path.store_path.Goals as goal

unrooted : (path : List ℕ) → ((rest : List ℕ) → path ≢ encode_utf8 47 ++ rest) → slice_index path 0 ≢ 47
unrooted [] none is = absurd (cc is)
unrooted (first ∷ rest) none is = none rest (ap (λ (byte : ℕ). byte ∷ rest) is
    ∙ sym (ap (λ (front : List ℕ). front ++ rest) (encode_ascii 47 (omega arith))))

pub returns-in_default-clause-named : goal.returns-in_default-clause-named
returns-in_default-clause-named c = λ named stands. unrooted c.args.path.now c.in_default.ensures.cases stands.rooted
