-- The facts of a state, at the end of each legal run.
use Rattle.std.proofs.Common.{◌≡◌, ◌⊎◌, Bool, true, false, refl, sym, ap, ◌∙◌, inl, inr, subst, List}
use Rattle.std.specs.FinMap as map
use Rattle.nb_base.specs.Meanings.{IsMeaning}
use Rattle.nb_base.specs.Sound.{IsSoundPost}
use Rattle.nb_base.specs.declared.entry.Op.{Op}
use Rattle.nb_base.specs.declared.entry.OutboxRow.{OutboxRow}
use Rattle.nb_core.proofs.Counting.{CountingAt, Leaves, counting_kept, counting_at_first, unnamed_low, held_low}
use Rattle.nb_core.proofs.Held.{phase_empty}
use Rattle.nb_core.proofs.Placing.{Mark, First_marks, PlacingAt, placing_kept, placing_at_first, more_marks}
use Rattle.nb_core.proofs.Placing as placing
use Rattle.nb_core.proofs.Sending.{TellingAt, telling_kept, Sends}
use Rattle.nb_core.proofs.Sending as sending
use Rattle.nb_core.proofs.Serials.{Kept, kept_on, kept_at_opening}
use Rattle.nb_core.proofs.Sounding.{RecordingAt, GoingAt, CanGoOn, recording_kept, post_kept, going_kept}
use Rattle.nb_core.specs.Facts.{StateFacts}
use Rattle.nb_core.specs.History.{Opening, Run, ends, goes, opened}
use Rattle.nb_core.specs.Legal.{IsSound}
use Rattle.nb_core.specs.Sent.{Told, told_at_first, told_after}
use Rattle.nb_core.specs.State.{State, Constants, number_of}
use Rattle.nb_core.specs.Step.{Event, Step}

-- all that a state of a legal history keeps, where t was told of it, and K was marked
pub record Whole (c : Constants) (t : Told) (K : Mark → Type 0) (s : State) : Type 0 where
  pub kept : Kept c s
  pub post : IsSoundPost s.post
  pub recording : RecordingAt s
  pub going : GoingAt s
  pub counting : CountingAt c s
  pub telling : TellingAt t s
  pub placing : PlacingAt c K s

abbrev pub anything : Mark → Type 0
anything k = Unit {0}

pub whole_on : {c : Constants} {s s' : State} {e : Event} (t : Told) → IsMeaning c.meaning → (step : Step c s e s') → Whole c t anything s → Whole c (told_after t step) anything s'
whole_on {c = c} {s' = s'} t means step h = record {
  kept = kept_on means step h.kept;
  post = post_kept step h.going h.post;
  recording = recording_kept means step h.kept.looking h.kept.sound h.post h.recording;
  going = going_kept means step h.kept.looking h.kept.sound h.post h.recording h.going;
  counting = counting_kept step h.kept.holding h.counting;
  telling = telling_kept t step h.telling;
  placing = more_marks c.settings _ anything s'.tables.outbox s'.tables.outbox s'.phases s'.post.entries s'.back (λ k x. tt) (λ id r e. tt) (placing_kept anything step h.kept.below h.kept.holding h.placing);
}

told_at_end : {c : Constants} {s s' : State} {es : List Event} → Told → Run c s es s' → Told
told_at_end t ends = t
told_at_end t (goes step rest) = told_at_end (told_after t step) rest

pub whole_at_end : {c : Constants} {s s' : State} {es : List Event} (t : Told) → IsMeaning c.meaning → (run : Run c s es s') → Whole c t anything s → (u : Told) × Whole c u anything s'
whole_at_end t means ends h = (t, h)
whole_at_end t means (goes step rest) h = whole_at_end (told_after t step) means rest (whole_on t means step h)

pub whole_at_opening : (c : Constants) (o : Opening) → IsSound c o → Whole c (told_at_first (opened o)) anything (opened o)
whole_at_opening c o sound = record {
  kept = kept_at_opening c o sound;
  post = sound.post;
  recording = record { records = sound.tables.records; numbers = sound.tables.numbers };
  going = λ w. subst CanGoOn (sym (phase_empty w)) tt;
  counting = counting_at_first c (opened o) (λ n. map.get-empty _ n);
  telling = sending.at_first (opened o) phase_empty;
  placing = more_marks c.settings _ anything o.tables.outbox o.tables.outbox map.empty o.post.entries map.empty (λ k x. tt) (λ id r e. tt) (placing_at_first c (opened o) phase_empty (λ n. map.get-empty _ n));
}

-- a record that isn't sent has the ops of its batch
has_batch : (r : OutboxRow) (ops : List Op) → (b : Bool) → r.sent ≡ b → (r.sent ≡ false → r.ops ≡ ops) → (r.sent ≡ true) ⊎ (r.ops ≡ ops)
has_batch r ops true e f = inl e
has_batch r ops false e f = inr (f e)

pub facts_of : (c : Constants) (t : Told) (s : State) → Whole c t anything s → StateFacts c s
facts_of c t s h = record {
  tables = record { base = h.kept.sound.sound; records = h.recording.records; numbers = h.recording.numbers };
  post = h.post;
  fit = h.kept.sound.fit;
  holding = h.kept.holding;
  looked = h.kept.looking;
  sending = λ w n id ops k is.
      let told = h.telling.sending w n id ops k is in
      let place = subst (placing.Fits c.settings anything s.post.entries s.back) is (h.placing.fits w) in
      let can = subst CanGoOn is (h.going w) in
      record {
        it = place.0;
        there = place.1;
        id_is = place.2;
        row = told.it;
        known = told.there;
        batch = has_batch told.it ops told.it.sent refl (λ no. h.telling.pending id told.it told.there no ∙ sym told.batch);
        ops_can = can.0;
        so_far = can.1;
      };
  leaving = λ w n queue due copy is. subst CanGoOn is (h.going w);
  free = λ n f. unnamed_low c s h.counting n f.unnamed;
  tried = λ w n reads is. held_low c s h.counting h.kept.holding w n (ap number_of is) (λ l. subst (Leaves n) is l);
  counts = h.counting.bound;
  back = λ n is. h.placing.back_is n tt is;
}

pub state_facts : {c : Constants} {o : Opening} {s' : State} {es : List Event} → IsMeaning c.meaning → IsSound c o → Run c (opened o) es s' → StateFacts c s'
state_facts {c = c} {o = o} {s' = s'} means sound run =
    let w = whole_at_end (told_at_first (opened o)) means run (whole_at_opening c o sound) in
    facts_of c w.0 s' w.1
