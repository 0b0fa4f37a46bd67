-- Which values are allowed.
use Rattle.std.specs.Prelude.{◌≡◌, Contains, [], ⊤}
use Rattle.{headers.specs.Lines.Line, decide_cors.specs.declared.rules.Allowed.{Allowed, TheVariants.{Any, Listed}}}
use Rattle.decide_cors.specs.declared.rules.AllowedNames.{AllowedNames}
use Rattle.decide_cors.specs.declared.rules.AllowedNames.TheVariants as Names

abbrev pub IsAny : {X : Type 0} → Allowed X → Type 0
IsAny Any = ⊤
IsAny (Listed values) = ⊥

-- the value is in the list
abbrev pub Lists : Allowed Line → Line → Type 0
Lists Any value = ⊥
Lists (Listed values) value = Contains values.items value

-- the value is one of those that are allowed
abbrev pub Admits : Allowed Line → Line → Type 0
Admits Any value = ⊤
Admits (Listed values) value = Contains values.items value

-- no value is
abbrev pub ListsNone : {X : Type 0} → Allowed X → Type 0
ListsNone Any = ⊥
ListsNone (Listed values) = values.items ≡ []

-- any name, with `authorization` or without
abbrev pub IsAnyName : AllowedNames → Type 0
IsAnyName Names.Any = ⊤
IsAnyName Names.AnyAndAuthorization = ⊤
IsAnyName (Names.Listed names) = ⊥

abbrev pub ListsName : AllowedNames → Line → Type 0
ListsName Names.Any name = ⊥
ListsName Names.AnyAndAuthorization name = ⊥
ListsName (Names.Listed names) name = Contains names.items name

abbrev pub ListsNoName : AllowedNames → Type 0
ListsNoName Names.Any = ⊥
ListsNoName Names.AnyAndAuthorization = ⊥
ListsNoName (Names.Listed names) = names.items ≡ []

-- the same names; if they are any, without `authorization`
abbrev pub names_of : Allowed Line → AllowedNames
names_of Any = Names.Any
names_of (Listed names) = Names.Listed names
