-- The laws of a header that is one encoding shape.
use Rattle.std.specs.Prelude.{List}
use Rattle.headers_syntax.specs.Lines.{Line}
use Rattle.headers_syntax.specs.HeaderLaws.{HeaderLaws, Grammar, SameBy, ReadsBy, written_by, ReadsBack, laws_by}

-- the laws of an encoding shape hold for the headers that store it
pub laws_along : {V F A : Type 0} (form : V → F) (grammar : Grammar F A) → ReadsBack grammar
    → HeaderLaws (λ (v w : V). SameBy grammar (form v) (form w))
    (λ (lines : List Line) (v : V). ReadsBy grammar lines (form v)) (λ (v : V). written_by grammar (form v))
laws_along form grammar back =
    laws_by (record {
      kept = λ v. grammar.kept (form v);
      value_of = grammar.value_of;
      lines_of_value =
          grammar.lines_of_value;
    }) back
