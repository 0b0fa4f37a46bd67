-- The methods of a resource, by what a caller hands in.
use Rattle.std.specs.Prelude.{◌≡◌, ◌⊎◌, ℕ, ◌≤◌, List, [], ◌∷◌, All, codes, length, slice_get, Option, Some, None}
use Rattle.{std.specs.{Prelude.{Result, Ok, Err, false}, Global.Vec}, http_header.specs.FieldValue.IsFieldValue}
use Rattle.{http_header.specs.Token.IsToken, headers.specs.{LineMap.lines_at, Lines.{Line, lines_of}}}
use Rattle.{decide_resource.specs.declared.resource.MethodRule.MethodRule, c_decisions.specs.Methods.IsMethodOf}
use Rattle.{c_decisions.specs.Texts.IsValuesOf, c_parts.specs.{FieldText.field_lines, declared.status.Failure.Failure}}
use Rattle.{c_parts.specs.declared.status.Failure.TheVariants.Memory, c_resource.specs.Lists.{IsEachAt, IsListOf}}
use Rattle.c_resource.specs.{Lists.{filled_at, is_named}, declared.method_rule.RuleLists.RuleLists}
use Rattle.c_resource.specs.declared.resource.ResourceParts.{ResourceParts}

-- what is said of methods: which create and which need a precondition, by their names, and what content each takes, at
-- its place
pub record RuleLines : Type 0 where
  pub creating : List Line
  pub guarded : List Line
  pub accept : List Line
  pub accept_encoding : List Line

-- the line, if there is one
abbrev pub option_lines : Option Line → List Line
option_lines None = []
option_lines (Some line) = line ∷ []

-- the rule of a method that is at this place; it takes no parts
pub record IsRule (lines : RuleLines) (place : ℕ) (method : Line) (rule : MethodRule) : Type 0 where
  pub method_is : rule.method ≡ method
  pub is_method : IsToken method
  pub creates : rule.creates ≡ is_named method lines.creating
  pub needs_condition : rule.needs_condition ≡ is_named method lines.guarded
  pub takes_parts : rule.takes_parts ≡ false
  pub accept : lines_at rule.takes (codes "accept") ≡ option_lines (filled_at lines.accept place)
  pub accept_encoding : lines_at rule.takes (codes "accept-encoding")
      ≡ option_lines (filled_at lines.accept_encoding place)

-- the method can't be parsed, or its rule runs out of memory
abbrev pub FailsAtRule : Line → Failure → Type 0
FailsAtRule method failure = (failure ≡ Memory) ⊎ IsMethodOf method (Err failure)

module _ (methods : List Line) where
  -- the rule of the method at a place
  abbrev pub IsRuleAt : RuleLines → ℕ → MethodRule → Type 0
  IsRuleAt lines place rule = (method : Line) × (slice_get methods place ≡ Some method) × IsRule lines place method rule

  -- one rule for each method, in their order
  abbrev pub AreRules : RuleLines → List MethodRule → Type 0
  AreRules lines rules = IsEachAt (IsRuleAt lines) (length methods) rules

  -- a method can't be parsed, or its rule runs out of memory
  abbrev pub FailsAtMethod : Failure → Type 0
  FailsAtMethod failure =
      (place : ℕ) × (method : Line) × (slice_get methods place ≡ Some method) × FailsAtRule method failure

  abbrev pub AreRulesRead : RuleLines → Result (Vec MethodRule) Failure → Type 0
  AreRulesRead lines (Ok rules) = AreRules lines rules.items
  AreRulesRead lines (Err failure) = FailsAtMethod failure

-- the lines that were read
abbrev pub lines_by : RuleLists → RuleLines
lines_by lists =
    record {
      creating = lines_of lists.creating.items;
      guarded = lines_of lists.guarded.items;
      accept = lines_of lists.accept.items;
      accept_encoding = lines_of lists.accept_encoding.items;
    }

-- what a rule that was read is, or why it wasn't
abbrev pub IsRuleAnswer : RuleLines → ℕ → Line → Result MethodRule Failure → Type 0
IsRuleAnswer lines place method (Ok rule) = IsRule lines place method rule
IsRuleAnswer lines place method (Err failure) = FailsAtRule method failure

-- the lines that were handed in
abbrev pub lines_given : ResourceParts → RuleLines
lines_given given =
    record {
      creating = field_lines given.creating.now;
      guarded = field_lines given.guarded.now;
      accept = field_lines given.accept.now;
      accept_encoding = field_lines given.accept_encoding.now;
    }

-- the rules are those of the methods that were handed in: each line can be a field line, and no more lines say what
-- content is taken than there are methods
pub record AreRulesOf (given : ResourceParts) (rules : List MethodRule) : Type 0 where
  pub methods : All IsFieldValue (field_lines given.methods.now)
  pub creating : All IsFieldValue (field_lines given.creating.now)
  pub guarded : All IsFieldValue (field_lines given.guarded.now)
  pub accept : All IsFieldValue (field_lines given.accept.now)
  pub accept_few : length (field_lines given.accept.now) ≤ length (field_lines given.methods.now)
  pub accept_encoding : All IsFieldValue (field_lines given.accept_encoding.now)
  pub accept_encoding_few : length (field_lines given.accept_encoding.now) ≤ length (field_lines given.methods.now)
  pub are_rules : AreRules (field_lines given.methods.now) (lines_given given) rules

-- the failure is that of reading one of the texts, or a method
abbrev pub FailsAtRules : ResourceParts → Failure → Type 0
FailsAtRules given failure =
    IsValuesOf given.methods.now (Err failure)
    ⊎ (IsValuesOf given.creating.now (Err failure)
    ⊎ (IsValuesOf given.guarded.now (Err failure)
    ⊎ (IsListOf (length (field_lines given.methods.now)) given.accept.now (Err failure)
    ⊎ (IsListOf (length (field_lines given.methods.now)) given.accept_encoding.now (Err failure)
    ⊎ FailsAtMethod (field_lines given.methods.now) failure))))

abbrev pub IsRulesAnswer : ResourceParts → Result (Vec MethodRule) Failure → Type 0
IsRulesAnswer given (Ok rules) = AreRulesOf given rules.items
IsRulesAnswer given (Err failure) = FailsAtRules given failure
