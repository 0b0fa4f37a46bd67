-- A server's rules for requests from other origins, as a caller hands them in.
use Rattle.std.specs.{Prelude.{◌≡◌, ◌⊎◌, ℕ, ⊤, false, List, [], ◌∷◌, All, Result, Ok, Err, true}, Global.Vec}
use Rattle.{std.specs.List.AllZip, http_header.specs.{FieldName.IsFieldName, FieldValue.IsFieldValue, Token.IsToken}}
use Rattle.{http_header.specs.Token.lowercase, headers.specs.{Lines.Line, Origin.origin_reads, Typed.HasLine}}
use Rattle.{headers.specs.declared.Origin.Origin, decide_cors.specs.{Allowed.names_of, Policy.Policy, Rules.IsLawful}}
use Rattle.decide_cors.specs.{Rules.{IsPolicyOf, IsReadable, IsWritten, Refuses}, declared.error.RulesError.RulesError}
use Rattle.decide_cors.specs.declared.rules.{Allowed.{Allowed, TheVariants.{Any, Listed}}, CorsRules.CorsRules}
use Rattle.c_parts.specs.{FieldText.field_lines, declared.status.Failure.{Failure, TheVariants.{Refused, Memory}}}
use Rattle.{c_parts.specs.declared.status.Failure.TheVariants.{Absent, TooLarge}, c_decisions.specs.Numbers.known}
use Rattle.c_decisions.specs.{Star.is_any, declared.rules.Rules.Rules}

-- the line is an origin, as the field Origin has it
abbrev pub reads_origin : Line → Origin → Type 0
reads_origin line origin = origin_reads (line ∷ []) origin

-- the line is a method: a token
abbrev pub reads_method : Line → List ℕ → Type 0
reads_method line method = IsToken line × (method ≡ line)

-- the line is the name of a field, in lower case or not
abbrev pub reads_name : Line → List ℕ → Type 0
reads_name line name = IsFieldName line × (name ≡ lowercase line)

-- what an answer says of P: a value of which it holds, `Refused` only if it holds of none, or `Memory` only if some is
-- taken
abbrev pub Finds : {V : Type 0} → Type 0 → (V → Type 0) → Result V Failure → Type 0
Finds allocates P (Ok value) = P value
Finds {V} allocates P (Err Refused) = (value : V) → ¬ (P value)
Finds allocates P (Err Memory) = allocates
Finds allocates P (Err Absent) = ⊥
Finds allocates P (Err TooLarge) = ⊥

-- the same of what a line is: it is copied
abbrev pub FindsOfLine : {V : Type 0} → (V → Type 0) → Result V Failure → Type 0
FindsOfLine P answer = Finds ⊤ P answer

-- the lines decode to the values, one each
abbrev pub ReadEach : {V : Type 0} → (Line → V → Type 0) → List Line → Vec V → Type 0
ReadEach reads lines values = AllZip reads lines values.items

-- what the lines of a text allow: any value if the only line is a star, else those that they read, one each
abbrev pub Allows : {V : Type 0} → (Line → V → Type 0) → List ℕ → Allowed V → Type 0
Allows reads text Any = is_any (field_lines text) ≡ true
Allows reads text (Listed values) =
    (is_any (field_lines text) ≡ false) × All IsFieldValue (field_lines text) × ReadEach reads (field_lines text) values

-- what an answer says of a text's lines: memory is taken only if there is a line
abbrev pub FindsOfText : {V : Type 0} → (Line → V → Type 0) → List ℕ → Result (Allowed V) Failure → Type 0
FindsOfText reads text answer = Finds (HasLine (field_lines text)) (Allows reads text) answer

-- the rules that were handed in
pub record AreRulesOf (given : Rules) (rules : CorsRules) : Type 0 where
  pub listed : Allowed Line
  pub origins : Allows reads_origin given.origins.now rules.origins
  pub methods : Allows reads_method given.methods.now rules.methods
  pub names : Allows reads_name given.headers.now listed
  pub same_names : rules.names ≡ names_of listed
  pub exposed : Allows reads_name given.exposed.now rules.exposed
  pub credentials : rules.credentials ≡ given.credentials
  pub max_age : rules.max_age ≡ known given.has_max_age given.max_age

-- the failure is that of reading one of the four texts
abbrev pub FailsAtText : Rules → Failure → Type 0
FailsAtText given failure =
    FindsOfText reads_origin given.origins.now (Err failure)
    ⊎ (FindsOfText reads_method given.methods.now (Err failure)
    ⊎ (FindsOfText reads_name given.headers.now (Err failure)
    ⊎ FindsOfText reads_name given.exposed.now (Err failure)))

-- the answer is the rules, or the failure of reading what was handed in
abbrev pub IsRulesAnswer : Rules → Result CorsRules Failure → Type 0
IsRulesAnswer given (Ok rules) = AreRulesOf given rules
IsRulesAnswer given (Err failure) = FailsAtText given failure

-- the policy is that of the rules that were handed in
pub record IsPolicyFor (given : Rules) (policy : Policy) : Type 0 where
  pub rules : CorsRules
  pub are_rules : AreRulesOf given rules
  pub is_lawful : IsLawful rules
  pub is_policy : IsPolicyOf rules policy

-- the rules that were handed in make no policy
pub record AreUnlawful (given : Rules) : Type 0 where
  pub rules : CorsRules
  pub are_rules : AreRulesOf given rules
  pub error : RulesError
  pub refuses : Refuses rules error

-- browsers read the rules that were handed in as they are meant, and there is something to encode
pub record AreWritten (given : Rules) : Type 0 where
  pub rules : CorsRules
  pub are_rules : AreRulesOf given rules
  pub is_readable : IsReadable rules
  pub is_written : IsWritten rules

-- The answer is the policy, or the failure of reading the rules. `Refused` also if they make no policy, and `Memory`
-- also if there is something to encode.
abbrev pub IsPolicyAnswer : Rules → Result Policy Failure → Type 0
IsPolicyAnswer given (Ok policy) = IsPolicyFor given policy
IsPolicyAnswer given (Err failure) =
    FailsAtText given failure
    ⊎ (((failure ≡ Refused) × AreUnlawful given) ⊎ ((failure ≡ Memory) × AreWritten given))
