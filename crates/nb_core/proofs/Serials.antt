-- The sagas, rows, commits and batches of a run are those of the serial fold over its commits.
use Rattle.std.proofs.Common.{refl, sym, ap, subst, List, ◌++◌}
use Rattle.std.specs.FinMap as map
use Rattle.nb_base.specs.Meanings.{IsMeaning}
use Rattle.nb_base.specs.Shown.{Stored}
use Rattle.nb_base.specs.declared.entry.Op.{Op}
use Rattle.nb_core.proofs.Held.{BelowAt, HoldingAt, below_kept, holding_kept, nobody, phase_empty}
use Rattle.nb_core.proofs.Looking.{LookingAt, ReadWell, Sound, looking_kept, sound_kept, present}
use Rattle.nb_core.specs.History.{Opening, Run, ends, goes, opened, commit_by, batch_by, commits, batches}
use Rattle.nb_core.specs.Legal.{IsSound}
use Rattle.nb_core.specs.Serve.{HandledAt, Serial, served}
use Rattle.nb_core.specs.State.{State, Constants, base}
use Rattle.nb_core.specs.Step.{Event, Step, settle_commit}

-- what every state of a legal history keeps
pub record Kept (c : Constants) (s : State) : Type 0 where
  pub below : BelowAt s
  pub holding : HoldingAt c s
  pub sound : Sound c (base s)
  pub looking : LookingAt c s

pub kept_on : {c : Constants} {s s' : State} {e : Event} → IsMeaning c.meaning → Step c s e s' → Kept c s → Kept c s'
kept_on means step f = record {
  below = below_kept step f.below;
  holding = holding_kept step f.below f.holding;
  sound = sound_kept means step f.looking f.sound;
  looking = looking_kept step f.below f.holding f.sound.sound f.looking;
}

pub kept_at_end : {c : Constants} {s s' : State} {es : List Event} → IsMeaning c.meaning → Run c s es s' → Kept c s → Kept c s'
kept_at_end means ends f = f
kept_at_end means (goes step rest) f = kept_at_end means rest (kept_on means step f)

serial_step : {c : Constants} (means : IsMeaning c.meaning) {s s' : State} {e : Event} (step : Step c s e s') → Kept c s → (hs : List HandledAt) (t : Stored) (bs : List (List Op))
    → Serial c.meaning c.settings (base s') hs t bs → Serial c.meaning c.settings (base s) (commit_by step ++ hs) t (batch_by step ++ bs)
serial_step {c = c} means {s = s} (settle_commit {w = w} {n = n} {reads = reads} {e = e} {plan = plan} looked there new judged fresh room) f hs t bs rest =
    let p = present c means s w n reads e plan f.sound f.looking looked there judged fresh in
    (_, ap (served c.settings (base s) e.envelope s.moment) p.verdict_is, rest)
serial_step means _ f hs t bs rest = rest

pub serial : {c : Constants} → IsMeaning c.meaning → {s s' : State} {es : List Event} (r : Run c s es s') → Kept c s → Serial c.meaning c.settings (base s) (commits r) (base s') (batches r)
serial means ends f = refl
serial means (goes step rest) f = serial_step means step f _ _ _ (serial means rest (kept_on means step f))

-- an opening has the facts
pub kept_at_opening : (c : Constants) (o : Opening) → IsSound c o → Kept c (opened o)
kept_at_opening c o sound = record {
  below = record { below = λ n e there. (sound.post.entries n e there).below };
  holding = nobody c.settings map.empty o.post.entries phase_empty;
  sound = record { sound = sound.tables.base; fit = sound.fits };
  looking = λ w. subst (ReadWell c (base (opened o)) o.post.entries) (sym (phase_empty w)) tt;
}
