-- What follows from a decision.
use Rattle.std.proofs.Common.{◌≡◌, ◌+◌, ◌*◌, ◌<◌, ◌≤◌, ℕ, Bool, true, false, cond, Some, None, Option, refl, sym, List}
use Rattle.std.specs.Prelude.{nat_le, nat_lt}
use Rattle.std.proofs.lemmas.Bool.{leb-true, leb-false, ltb-true, ltb-false}
use Rattle.nb_base.specs.declared.route.Action.{Action}
use Rattle.nb_base.specs.declared.route.Action.TheVariants as action
use Rattle.nb_base.specs.declared.settings.Settings.{Settings}
use Rattle.nb_recover.specs.Decisions.{decide, decide_by, policy_of, delayed_retry}
use Rattle.nb_recover.specs.declared.moves.Move.{Move}
use Rattle.nb_recover.specs.declared.moves.Move.TheVariants.{Again, Later, Error}

-- a delayed retry: there is a next round, and the immediate ones are used up
pub record IsLater (s : Settings) (count round next : ℕ) : Type 0 where
  pub next_is : next ≡ round + 1
  pub more : round < s.delayed
  pub over : s.immediate < count

-- the ways to the error queue
pub data IsError (s : Settings) (name : List ℕ) (count round : ℕ) (u : Bool) : Type 0 where
  unrecoverable : u ≡ true → IsError s name count round u
  at_once : policy_of s.policies name ≡ Some action.Error → IsError s name count round u
  immediate_over : policy_of s.policies name ≡ Some action.Immediate → s.immediate < count → IsError s name count round u
  all_over : s.delayed ≤ round → s.immediate < count → IsError s name count round u

module _ (s : Settings) (count round : ℕ) where
  delayed_later : (r d : ℕ) → (b : Bool) → nat_lt round s.delayed ≡ b → cond b (Later (round + 1) ((round + 1) * s.increase)) Error ≡ Later r d → (r ≡ round + 1) × (round < s.delayed)
  delayed_later r d true t e = (let z : round + 1 ≡ r = cc in sym z, ltb-true round s.delayed t)
  delayed_later r d false t e = absurd (cc)

  retry_later : (r d : ℕ) (b : Bool) → nat_le count s.immediate ≡ b → cond b Again (delayed_retry s round) ≡ Later r d → IsLater s count round r
  retry_later r d true t e = absurd (cc)
  retry_later r d false t e =
      let p = delayed_later r d (nat_lt round s.delayed) refl e in
      record { next_is = p.0; more = p.1; over = leb-false count s.immediate t }

  retry_error : (r d : ℕ) (b : Bool) → nat_le count s.immediate ≡ b → cond b Again Error ≡ Later r d → ⊥
  retry_error r d true t e = cc
  retry_error r d false t e = cc

  by_later : (r d : ℕ) (p : Option Action) (u : Bool) → decide_by p s count round u ≡ Later r d → IsLater s count round r
  by_later r d (Some action.Discard) u e = absurd (cc)
  by_later r d (Some action.Error) u e = absurd (cc)
  by_later r d (Some action.Immediate) true e = absurd (cc)
  by_later r d (Some action.Immediate) false e = absurd (retry_error r d (nat_le count s.immediate) refl e)
  by_later r d None true e = absurd (cc)
  by_later r d None false e = retry_later r d (nat_le count s.immediate) refl e

  pub later_is : (name : List ℕ) (u : Bool) (r d : ℕ) → decide s name count round u ≡ Later r d → IsLater s count round r
  unfolding decide
  later_is name u r d e = by_later r d (policy_of s.policies name) u e

  module _ (name : List ℕ) (u : Bool) where
    after_all : (b : Bool) → nat_lt round s.delayed ≡ b → cond b (Later (round + 1) ((round + 1) * s.increase)) Error ≡ Error → s.delayed ≤ round
    after_all true t e = absurd (cc)
    after_all false t e = ltb-false round s.delayed t

    over_is : (m : Move) (b : Bool) → nat_le count s.immediate ≡ b → cond b Again m ≡ Error → (s.immediate < count) × (m ≡ Error)
    over_is m true t e = absurd (cc)
    over_is m false t e = (leb-false count s.immediate t, e)

    by_error : (p : Option Action) (v : Bool) → policy_of s.policies name ≡ p → u ≡ v → decide_by p s count round v ≡ Error → IsError s name count round u
    by_error (Some action.Discard) v is same e = absurd (cc)
    by_error (Some action.Error) v is same e = at_once is
    by_error (Some action.Immediate) true is same e = unrecoverable same
    by_error (Some action.Immediate) false is same e = immediate_over is (over_is Error (nat_le count s.immediate) refl e).0
    by_error None true is same e = unrecoverable same
    by_error None false is same e =
        let o = over_is (delayed_retry s round) (nat_le count s.immediate) refl e in
        all_over (after_all (nat_lt round s.delayed) refl o.1) o.0

    pub error_is : decide s name count round u ≡ Error → IsError s name count round u
    unfolding decide
    error_is e = by_error (policy_of s.policies name) u refl refl e

  again_few : (b : Bool) (m : Move) → nat_le count s.immediate ≡ b → cond b Again m ≡ Again → (m ≡ Again → count ≤ s.immediate) → count ≤ s.immediate
  again_few true m t e f = leb-true count s.immediate t
  again_few false m t e f = f e

  delayed_never : (b : Bool) → cond b (Later (round + 1) ((round + 1) * s.increase)) Error ≡ Again → count ≤ s.immediate
  delayed_never true e = absurd (cc)
  delayed_never false e = absurd (cc)

  by_again : (p : Option Action) (u : Bool) → decide_by p s count round u ≡ Again → count ≤ s.immediate
  by_again (Some action.Discard) u e = absurd (cc)
  by_again (Some action.Error) u e = absurd (cc)
  by_again (Some action.Immediate) true e = absurd (cc)
  by_again (Some action.Immediate) false e = again_few (nat_le count s.immediate) Error refl e (λ z. absurd (cc))
  by_again None true e = absurd (cc)
  by_again None false e = again_few (nat_le count s.immediate) (delayed_retry s round) refl e (delayed_never (nat_lt round s.delayed))

  -- whoever is tried again at once has failed at most as often as there are immediate retries
  pub again_is : (name : List ℕ) (u : Bool) → decide s name count round u ≡ Again → count ≤ s.immediate
  unfolding decide
  again_is name u e = by_again (policy_of s.policies name) u e
