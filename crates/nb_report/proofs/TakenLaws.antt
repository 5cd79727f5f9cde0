-- Takes that are counted one event at a time.
use Rattle.std.proofs.Common.{◌≡◌, ◌∙◌, ℕ, zero, suc, ◌+◌, ◌<◌, List, [], ◌∷◌, ◌++◌, length, take, get_or, refl, ap, arith}
use Rattle.std.proofs.lemmas.Option.{slice_get-get_or}
use Rattle.nb_base.proofs.ListLaws.{take_next}
use Rattle.nb_core.specs.Past.{taken}
use Rattle.nb_core.specs.declared.event.Event.{Event}
use Rattle.nb_core.specs.declared.event.Event.TheVariants.{Load, Take, Look, Settle, Send, Mark, Aside, Remove, Tick, Release, Purge, PutBack, DropBack, Stop, Halt}

taken_behind : (n : ℕ) (es : List Event) (e : Event) → taken n (es ++ e ∷ []) ≡ taken (taken n es) (e ∷ [])
taken_behind n [] e = refl
taken_behind n (Load m ∷ es) e = taken_behind n es e
taken_behind n (Take w ∷ es) e = taken_behind (n + 1) es e
taken_behind n (Look w ∷ es) e = taken_behind n es e
taken_behind n (Settle w ∷ es) e = taken_behind n es e
taken_behind n (Send w ∷ es) e = taken_behind n es e
taken_behind n (Mark w ∷ es) e = taken_behind n es e
taken_behind n (Aside w ∷ es) e = taken_behind n es e
taken_behind n (Remove w ∷ es) e = taken_behind n es e
taken_behind n (Tick to ∷ es) e = taken_behind n es e
taken_behind n (Release k ∷ es) e = taken_behind n es e
taken_behind n (Purge id ∷ es) e = taken_behind n es e
taken_behind n (PutBack k ∷ es) e = taken_behind n es e
taken_behind n (DropBack k ∷ es) e = taken_behind n es e
taken_behind n (Stop moment ∷ es) e = taken_behind 0 es e
taken_behind n (Halt store ∷ es) e = taken_behind n es e

-- with one more event
pub taken_next : (n : ℕ) (es : List Event) (i : ℕ) (d : Event) → i < length es → taken n (take (i + 1) es) ≡ taken (taken n (take i es)) (get_or es i d ∷ [])
taken_next n es i d h = ap (taken n) (take_next es i (get_or es i d) (slice_get-get_or es i d h)) ∙ taken_behind n (take i es) (get_or es i d)
