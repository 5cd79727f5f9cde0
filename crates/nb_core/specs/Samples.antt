-- What tests replay: a script that sets a row, from an opening with nothing in it.
use Rattle.std.specs.Prelude.{List, [], ◌∷◌, false, codes, pos}
use Rattle.std.specs.FinMap as map
use Rattle.nb_base.specs.Meanings.{Meaning}
use Rattle.nb_base.specs.declared.plan.Verdict.TheVariants as verdict
use Rattle.nb_base.specs.declared.plan.Write.TheVariants.{RowPut}
use Rattle.nb_base.specs.declared.value.Key.TheVariants.{Row}
use Rattle.nb_core.specs.History.{Opening}

-- each message reads the row `seen`, and sets it to 1
abbrev pub marking : Meaning
marking = record {
  keys = λ m. Row (codes "seen") ∷ [];
  verdict = λ t m at. verdict.Done (record { writes = RowPut (codes "seen") (pos 1) ∷ []; intents = [] });
  on_reads = λ reads m at. verdict.Done (record { writes = RowPut (codes "seen") (pos 1) ∷ []; intents = [] });
  sends = [];
  fits = λ saga row. false;
}

-- empty stores, at the first moment, with one worker
abbrev pub nothing : Opening
nothing = record {
  tables = record { sagas = map.empty; rows = map.empty; outbox = map.empty; commits = 0 };
  post = record { entries = map.empty; next = 1 };
  moment = 0;
  workers = 1;
}
