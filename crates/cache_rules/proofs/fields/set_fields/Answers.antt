use Rattle.{std.proofs.Common.{◌≡◌, refl}, headers_map.specs.declared.insert.InsertError.TheVariants.Full}
use Rattle.cache_rules.proofs.fields.set_fields.Goals as goal

pub returns-in-Err-clause-full : goal.returns-in-Err-clause-full
returns-in-Err-clause-full c = λ full.
    let same : c.in-Err.error.cause ≡ Full = cc full in
    record {
      encoded = c.args.fields.items;
      encodes = refl;
      left = c.set_all.new.map;
      valid = c.keys_len-names.ensures.valid;
      part = (
        c.in-Err.error.done,
        rw same at c.in-Err.ensures.err,
      );
    }
