-- A checked script's meaning is one: its verdict depends on what the tables show at the message's keys, and its plans keep them sound.
use Rattle.std.proofs.Common.{◌≡◌, ℕ, suc, refl, subst, List, [], ◌∷◌, true, false, cond, Option, Some, None, Ok, Err, arith}
use Rattle.std.specs.List.{AllByRecursion}
use Rattle.nb_base.specs.Meanings.{Meaning, AllFit, IsAmong, IsRightWrite, IsRightPlan, IsMeaning, IsShown}
use Rattle.nb_base.specs.Messages.{Message}
use Rattle.nb_base.specs.Shown.{Stored, shown, seen}
use Rattle.nb_base.specs.Sound.{IsSoundStored}
use Rattle.nb_base.specs.declared.plan.Plan.{Plan}
use Rattle.nb_base.specs.declared.plan.Verdict.TheVariants as verdict
use Rattle.nb_base.specs.declared.saga_row.Read.{Read}
use Rattle.nb_base.specs.declared.saga_row.SagaRow.{SagaRow}
use Rattle.nb_base.specs.declared.saga_row.Seen.TheVariants.{Absent, Saga as SagaSeen}
use Rattle.nb_base.specs.declared.value.Field.{Field}
use Rattle.nb_base.specs.declared.value.Key.{Key}
use Rattle.nb_base.specs.declared.value.Key.TheVariants as key
use Rattle.nb_script.specs.Grammar.{ItemTerm}
use Rattle.nb_check.specs.Blocks.{blocks}
use Rattle.nb_check.specs.Breaches.{twice}
use Rattle.nb_check.specs.Checks.{declared_names, body_fields, blocks_met, keys_read}
use Rattle.nb_check.specs.Declarations.{messages, sagas}
use Rattle.nb_check.specs.Keys.{same_key}
use Rattle.nb_check.specs.Meets.{incoming}
use Rattle.nb_check.specs.Sends.{sends}
use Rattle.nb_check.specs.Rules.{script_faults, placed_messages, placed_sagas}
use Rattle.nb_check.specs.declared.breach.CheckKind.TheVariants.{MessageTwice, SagaTwice}
use Rattle.nb_check.specs.declared.types.SagaType.{SagaType}
use Rattle.nb_check.specs.declared.incoming.Incoming.{Incoming}
use Rattle.nb_eval.specs.Blocks.{blocks_do}
use Rattle.nb_eval.specs.Meanings.{meaning_of, FitsLook}
use Rattle.nb_eval.specs.Values.{Answer}
use Rattle.nb_eval.specs.Worlds.{seen_in}
use Rattle.nb_eval.specs.Verdicts.{nothing_done, row_writes, plan_of, world_at, handled, verdict_of, on_body, on_met, on_type, verdict_over}
use Rattle.nb_eval.proofs.Steps.{left-nil, right-nil, all-both}
use Rattle.nb_eval.proofs.CheckedBlocks.{good-blocks}
use Rattle.nb_eval.proofs.SameKeys.{same_key-is}
use Rattle.nb_eval.proofs.Kept.{IfDone, done-then}
use Rattle.nb_eval.proofs.LocalVerdicts.{verdict-seen}
use Rattle.nb_eval.proofs.NeverWrong.{known-message}
use Rattle.nb_eval.proofs.RightPlan.{fits-look, plan-apart, row-writes-right}
use Rattle.nb_eval.proofs.RightBlocks.{Ended, blocks-done}
use Rattle.nb_eval.proofs.SagasApart.{sagas-apart}

step-among : (n x : List ℕ) (xs : List (List ℕ)) → IsAmong n xs → IsAmong n (x ∷ xs)
step-among n x xs h = (suc h.0, h.1)

all-step : (x : List ℕ) (xs ys : List (List ℕ)) → AllByRecursion (λ n. IsAmong n xs) ys → AllByRecursion (λ n. IsAmong n (x ∷ xs)) ys
all-step x xs [] h = tt
all-step x xs (y ∷ ys) h = (step-among y x xs h.0, all-step x xs ys h.1)

pub all-among : (xs : List (List ℕ)) → AllByRecursion (λ n. IsAmong n xs) xs
all-among [] = tt
all-among (x ∷ xs) = ((0, refl), all-step x xs xs (all-among xs))

module _ (items : List ItemTerm) (rules : script_faults items ≡ []) (t : Stored) (sound : IsSoundStored t) (fit : AllFit (meaning_of items) t) (e : Message) (at : ℕ) where
  meaning : Meaning
  meaning = meaning_of items

  handled-right : (m : Incoming) (fields : List Field) → incoming (declared_names items) e ≡ Some m → body_fields items m.message e.body ≡ Some fields → IfDone (IsRightPlan (meaning_of items) t) (handled items m (world_at e fields at (shown t)))
  handled-right m fields is body =
      let w = world_at e fields at (shown t) in
      let rest = right-nil (twice MessageTwice (placed_messages items)) _ rules in
      let known = known-message items e m fields (left-nil (twice MessageTwice (placed_messages items)) _ rules) is body in
      let apart = sagas-apart m (messages items) items (left-nil (twice SagaTwice (placed_sagas items)) _ rest) (right-nil (twice SagaTwice (placed_sagas items)) _ rest) in
      let look = fits-look (meaning_of items) (sagas items) t (λ saga row h. h) fit in
      done-then (Ended (meaning_of items) (messages items) (sagas items) t sound (λ saga row h. h) look w refl m known) (IsRightPlan (meaning_of items) t) (blocks_do (sagas items) m 1 (blocks items) w nothing_done) (λ s. Ok (plan_of (shown t) s))
      (blocks-done (meaning_of items) (messages items) (sagas items) t sound (λ saga row h. h) look w refl m known 1 (blocks items) nothing_done (good-blocks items rules) (all-among (sends items)) apart (omega arith) (record { once = tt; intents = (omega arith, tt); writes = record { apart = tt; right = tt; past = tt } }))
      (λ s inv. record {
        apart = plan-apart (shown t) inv.0 [] s.writes s.touched inv.1.writes.past inv.1.writes.apart inv.1.once;
        writes = all-both (IsRightWrite (meaning_of items) t) s.writes (row_writes (shown t) s.touched) inv.1.writes.right (row-writes-right (meaning_of items) t (shown t) s.touched);
        few = inv.1.intents.0;
        targets = inv.1.intents.1;
      })

  plan-is : (p q : Plan) → verdict.Done p ≡ verdict.Done q → p ≡ q
  plan-is p q h = cc

  of-answer : (x : Answer Plan) (plan : Plan) → IfDone (IsRightPlan (meaning_of items) t) x → verdict_of x ≡ verdict.Done plan → IsRightPlan (meaning_of items) t plan
  of-answer (Ok p) plan right h = subst (λ p. IsRightPlan (meaning_of items) t p) (plan-is p plan h) right
  of-answer (Err s) plan right h = absurd (cc)

  of-body : (m : Incoming) (o : Option (List Field)) (plan : Plan) → incoming (declared_names items) e ≡ Some m → body_fields items m.message e.body ≡ o → on_body items (shown t) e at m o ≡ verdict.Done plan → IsRightPlan (meaning_of items) t plan
  of-body m None plan is body h = absurd (cc)
  of-body m (Some fields) plan is body h = of-answer (handled items m (world_at e fields at (shown t))) plan (handled-right m fields is body) h

  of-met : (m : Incoming) (ns : List ℕ) (plan : Plan) → incoming (declared_names items) e ≡ Some m → on_met items (shown t) e at m ns ≡ verdict.Done plan → IsRightPlan (meaning_of items) t plan
  of-met m [] plan is h = absurd (cc)
  of-met m (n ∷ ns) plan is h = of-body m (body_fields items m.message e.body) plan is refl h

  of-type : (o : Option Incoming) (plan : Plan) → incoming (declared_names items) e ≡ o → on_type items (shown t) e at o ≡ verdict.Done plan → IsRightPlan (meaning_of items) t plan
  of-type None plan is h = absurd (cc)
  of-type (Some m) plan is h = of-met m (blocks_met items e) plan is h

  pub plan-right : (plan : Plan) → verdict_over items (shown t) e at ≡ verdict.Done plan → IsRightPlan (meaning_of items) t plan
  plan-right plan h = of-type (incoming (declared_names items) e) plan refl h

pub is_meaning : (items : List ItemTerm) → script_faults items ≡ [] → IsMeaning (meaning_of items)
is_meaning items rules = record {
  local = λ t sound fit m at. verdict-seen items rules t m at;
  plans = λ t sound fit m at plan h. plan-right items rules t sound fit m at plan h;
}

-- ---- what was read fits

seen-shown : (t : Stored) (ks : List Key) (k : Key) (row : SagaRow) → seen_in (seen t ks) k ≡ SagaSeen row → shown t k ≡ SagaSeen row
seen-shown t [] k row e = absurd (cc)
seen-shown t (j ∷ js) k row e =
    (elim (same_key j k) as (λ b. same_key j k ≡ b → cond b (shown t j) (seen_in (seen t js) k) ≡ SagaSeen row → shown t k ≡ SagaSeen row) [
      | true ↦ λ is e. subst (λ k. shown t k ≡ SagaSeen row) (same_key-is j k is) e
      | false ↦ λ is e. seen-shown t js k row e
    ]) refl e

pub shown-fits : (items : List ItemTerm) (e : Message) (reads : List Read) → IsShown (meaning_of items) e reads → FitsLook (sagas items) (seen_in reads)
shown-fits items e reads h =
    let look = fits-look (meaning_of items) (sagas items) h.tables (λ saga row x. x) h.fit in
    record {
      by_corr = λ saga corr row x. look.by_corr saga corr row (seen-shown h.tables (keys_read items e) (key.ByCorr saga corr) row (subst (λ rs. seen_in rs (key.ByCorr saga corr) ≡ SagaSeen row) h.shown x));
      by_id = λ saga id row x. look.by_id saga id row (seen-shown h.tables (keys_read items e) (key.ById saga id) row (subst (λ rs. seen_in rs (key.ById saga id) ≡ SagaSeen row) h.shown x));
    }

absent-saga : (row : SagaRow) → Absent ≡ SagaSeen row → ⊥
absent-saga row e = cc

-- where nothing was read, no saga is shown
pub nothing_read : (types : List SagaType) (reads : List Read) → reads ≡ [] → FitsLook types (seen_in reads)
nothing_read types reads e = record {
  by_corr = λ saga corr row x. absurd (absent-saga row (subst (λ rs. seen_in rs (key.ByCorr saga corr) ≡ SagaSeen row) e x));
  by_id = λ saga id row x. absurd (absent-saga row (subst (λ rs. seen_in rs (key.ById saga id) ≡ SagaSeen row) e x));
}
