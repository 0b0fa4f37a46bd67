use Rattle.headers.specs.LineMap.{fields_of}
use Rattle.cache_rules.proofs.StoringLemmas.{as_stored, dated_fields, listed_dated, listed_undated}
use Rattle.cache_rules.proofs.storing.storing_fields.Goals.{else-lacks_date, then-lacks_date+in_ok-date+in_ok-push}
use Rattle.cache_rules.proofs.storing.storing_fields.Goals as goal

pub returns-clause-listed : goal.returns-clause-listed
returns-clause-listed c = elim c.if-lacks_date.branch [
  | then-lacks_date+in_ok-date+in_ok-push w ↦
      rw w.fields-is (listed_dated c.args.received c.args.response.now (fields_of w.push.new.self.items)
      (rw w.if-lacks_date.true at c.lacks_date.ensures)
      (dated_fields c.in_ok-fields.fields.items w.push.new.self.items w.in_ok-date.date _ c.args.received
      w.in_ok-push.ensures.items c.in_ok-fields.ensures.fields w.in_ok-date.ensures))
  | else-lacks_date w ↦
      rw w.fields-is (listed_undated c.args.received c.args.response.now (fields_of c.in_ok-fields.fields.items)
      (rw w.if-lacks_date.false at c.lacks_date.ensures) c.in_ok-fields.ensures.fields)
]

pub returns-clause-fields : goal.returns-clause-fields
returns-clause-fields c = as_stored c.args.received c.args.response.now _ (returns-clause-listed c)
