-- What the lines of `cache-control` say of `proxy-revalidate`.
use Rattle.std.{proofs.{Common.{◌≡◌, List, None, Some, ap, inl, inr, sym}, lemmas.Bool.cases_Bool}, specs.Prelude.codes}
use Rattle.{std.specs.List.list_any, headers.specs.CacheControl.{Directives, directives, directives_of, is_bad, is_set}}
use Rattle.{headers.specs.Lines.Line, headers_items.specs.Entries.entries}

directed : (lines : List Line) (given : Directives) → directives_of lines ≡ Some given
    → given ≡ directives (entries lines)
directed lines given says = elim (cases_Bool (list_any is_bad (entries lines))) [
  | inl bad ↦ let none : None ≡ Some given = rw bad at says in absurd (cc none)
  | inr good ↦ let some : Some (directives (entries lines)) ≡ Some given = rw good at says in sym (cc some)
]

pub proxy_of : (lines : List Line) (given : Directives) → directives_of lines ≡ Some given
    → given.proxy_revalidate ≡ is_set (codes "proxy-revalidate") (entries lines)
proxy_of lines given says = ap (λ (d : Directives). d.proxy_revalidate) (directed lines given says)
