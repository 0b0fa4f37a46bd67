-- What runs show: a lost update, and a client that reads a version older than its own.
use Rattle.std.proofs.Common.{◌≡◌, ◌≢◌, ℕ, [], ◌∷◌, slice_get, Some, refl, arith, inl}
use Rattle.updates.{specs.Runs.{ann, eggs, milk}, specs.Statements.{Has, LosesAnUpdate, ReadsOlder}}
use Rattle.updates.{specs.Worlds.{Change, World}, specs.Worlds.Request.Get, specs.Worlds.Response.Status200}

pub loses : {w : World} {change rival : Change} (place other : ℕ) → slice_get w.changes place ≡ Some change
    → slice_get w.changes other ≡ Some rival → change.put.read ≡ rival.put.read → place ≢ other → LosesAnUpdate w
loses {change = change} {rival = rival} place other at_place at_other same_base two = record {
  place = place;
  other = other;
  change = change;
  rival = rival;
  at_place = at_place;
  at_other = at_other;
  same_base = same_base;
  two = two;
}

pub reads_milk : (w : World) → Has w.received (record { request = Get ann (eggs ∷ []); response = Status200 milk })
    → ReadsOlder w
reads_milk w h = record {
  client = ann;
  written = eggs ∷ [];
  own = eggs;
  version = milk;
  got = h;
  knew = inl refl;
  older = omega arith;
}
