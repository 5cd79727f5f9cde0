-- The events that no worker makes, where their calls may be made.
use Rattle.std.proofs.Common.{◌≡◌, ◌≢◌, ℕ, List, [], ◌∷◌, true, false, Some, None, refl, sym, ap, ◌∙◌, subst}
use Rattle.std.specs.FinMap as map
use Rattle.nb_base.specs.Messages.{Message, IsMessage}
use Rattle.nb_base.specs.declared.tables.PostState.{PostState}
use Rattle.nb_base.specs.declared.tables.Queued.{Queued}
use Rattle.nb_core.specs.Calls.{Ready}
use Rattle.nb_core.specs.Changes.{put, removed}
use Rattle.nb_core.specs.Legal.{halted}
use Rattle.nb_core.specs.Past.{constants}
use Rattle.nb_core.specs.Standing.{HasRoom, entry}
use Rattle.nb_core.specs.Step.{Step, load, tick, release, purge, put_back, drop_back}
use Rattle.nb_core.specs.declared.call.Call.TheVariants as call
use Rattle.nb_core.specs.declared.event.Event.TheVariants.{Load, Tick, Release, Purge, PutBack, DropBack}
use Rattle.nb_headers.specs.Faults.{stripped}
use Rattle.nb_headers.specs.Reads.{failed_queue}
use Rattle.nb_hub.specs.Kept.{seen}
use Rattle.nb_hub.specs.Ledgers.{Past, past, state_at, Comes}
use Rattle.nb_queue.proofs.PostLaws.{released-there}
use Rattle.nb_queue.specs.Stands.{released}
use Rattle.nb_recover.specs.Copies.{returned_to, return_copy}
use Rattle.nb_recover.specs.declared.returned.Returned.{Returned}
use Rattle.nb_store.specs.Calls.{purged}

some_same : {A : Type 0} {x y : A} → Some x ≡ Some y → x ≡ y
some_same e = cc

-- what goes back from the error queue: to the queue that the message names, as if it had never failed
pub returned_is : (m : Message) (x : Returned) → failed_queue m ≢ [] → Some x ≡ return_copy m → x ≡ record { queue = failed_queue m; envelope = stripped m }
unfolding return_copy
returned_is m x named is = by_queue (failed_queue m) named is
  where
    by_queue : (q : List ℕ) → q ≢ [] → Some x ≡ returned_to q m → x ≡ record { queue = q; envelope = stripped m }
    by_queue [] n e = absurd (n refl)
    by_queue (b ∷ bs) n e = some_same e

pub some_returned : (m : Message) → failed_queue m ≢ [] → (x : Returned) × (return_copy m ≡ Some x)
unfolding return_copy
some_returned m named = by_queue (failed_queue m) named
  where
    by_queue : (q : List ℕ) → q ≢ [] → (x : Returned) × (returned_to q m ≡ Some x)
    by_queue [] n = absurd (n refl)
    by_queue (b ∷ bs) n = (record { queue = b ∷ bs; envelope = stripped m }, refl)

module _ (p : Past) where
  pub tick_comes : (to : ℕ) → halted p.events ≡ false → Ready (call.Tick to) (seen p) → Comes (past p.fixed p.events true) (Tick to) (record (state_at p) { moment = to })
  tick_comes to on r = record { room = refl; on = on; worker = tt; turn = tt; step = tick r.0.1 r.1 }

  pub load_comes : (m : Message) → halted p.events ≡ false → IsMessage m → HasRoom (state_at p) → Comes (past p.fixed p.events true) (Load m) (put (state_at p) p.fixed.settings.endpoint None m)
  load_comes m on named room = record { room = refl; on = on; worker = tt; turn = tt; step = load named room }

  pub release_comes : (n : ℕ) → halted p.events ≡ false → Ready (call.Release n) (seen p) → Comes (past p.fixed p.events true) (Release n) (record (state_at p) { post = released (state_at p).post n })
  release_comes n on r =
      let leads : PostState → Type 0 = λ q. Step (constants p.fixed) (state_at p) (Release n) (record (state_at p) { post = q }) in
      record { room = refl; on = on; worker = tt; turn = tt; step = subst leads (released-there (state_at p).post n r.1.0 _ r.1.2 refl) (release r.0.1 r.1.2 r.1.3 r.1.4) }

  pub purge_comes : (id : List ℕ) → halted p.events ≡ false → Ready (call.Purge id) (seen p) → Comes (past p.fixed p.events true) (Purge id) (record (state_at p) { tables = purged (state_at p).tables id })
  purge_comes id on r = record { room = refl; on = on; worker = tt; turn = tt; step = purge r.0.1 r.1.1 r.1.2 r.1.3 }

  pub put_back_comes : (n : ℕ) (e : Queued) (x : Returned) → halted p.events ≡ false → HasRoom (state_at p) → Ready (call.PutBack n) (seen p) → entry (state_at p) n ≡ Some e → x ≡ record { queue = failed_queue e.envelope; envelope = stripped e.envelope }
      → Comes (past p.fixed p.events true) (PutBack n) (record (put (state_at p) x.queue None x.envelope) { back = map.insert (state_at p).back n tt })
  put_back_comes n e x on room r there is =
      let same : r.1.0 ≡ e = some_same (sym r.1.1 ∙ there) in
      let made : record { queue = failed_queue r.1.0.envelope; envelope = stripped r.1.0.envelope } ≡ x = ap (λ (y : Queued). record { queue = failed_queue y.envelope; envelope = stripped y.envelope }) same ∙ sym is in
      let leads : Returned → Type 0 = λ y. Step (constants p.fixed) (state_at p) (PutBack n) (record (put (state_at p) y.queue None y.envelope) { back = map.insert (state_at p).back n tt }) in
      record { room = refl; on = on; worker = tt; turn = tt; step = subst leads made (put_back r.0.1 r.1.1 r.1.2 r.1.3 r.1.4 room) }

  pub drop_back_comes : (n : ℕ) → halted p.events ≡ false → Ready (call.DropBack n) (seen p) → Comes (past p.fixed p.events true) (DropBack n) (record (removed (state_at p) n) { back = map.remove (state_at p).back n })
  drop_back_comes n on r = record { room = refl; on = on; worker = tt; turn = tt; step = drop_back r.0.1 r.1 }
