-- What the code's values are.
use Rattle.std.specs.Prelude.{ℕ, List, option_copied}
use Rattle.rfc_values.specs.Dictionaries.{Entry as EntryParts, MemberParts}
use Rattle.rfc_values.specs.Items.{Reading as Read, Step as StepParts, ValueParts}
use Rattle.rfc_values.specs.Items.{Step.{Ends, Fails, Goes}, ValueParts.{Integer, Boolean, Text, Other}}
use Rattle.rfc_values.specs.declared.dictionaries.{DictionaryMember.DictionaryMember, Member.Member}
use Rattle.rfc_values.specs.declared.items.{Reading.Reading, ItemValue.ItemValue}
use Rattle.rfc_values.specs.declared.items.ItemValue.TheVariants as value
use Rattle.rfc_values.specs.declared.parameters.Step.{Step}
use Rattle.rfc_values.specs.declared.parameters.Step.TheVariants as step

abbrev pub value_of : ItemValue → ValueParts
value_of (value.Integer text) = Integer text.now
value_of (value.Boolean is) = Boolean is
value_of (value.String text) = Text text.now
value_of value.Other = Other

abbrev pub reading_of : Reading → Read
reading_of reading = record { value = value_of reading.value; rest = reading.rest.now }

abbrev pub step_of : Step → StepParts
step_of (step.Ends rest) = Ends rest.now
step_of step.Fails = Fails
step_of (step.Goes rest) = Goes rest.now

abbrev pub member_of : Member → MemberParts
member_of member = record { key = member.key.now; value = value_of member.value }

abbrev pub entry_of : DictionaryMember → EntryParts
entry_of entry = record { member = member_of entry.member; next = option_copied entry.next }
