-- What statements keep: the changes of sagas, what a saga is, rows each once, and intents that may go.
use Rattle.std.proofs.Common.{◌≡◌, ◌≢◌, ℕ, ℤ, ◌+ℤ◌, ◌+◌, ◌≤◌, refl, sym, ap, ◌∙◌, subst, List, [], ◌∷◌, ◌++◌, length, nat_lt, nat_le, Bool, true, false, is_some, Option, Some, None, Ok, Err, cond, true≢false, arith}
use Rattle.std.proofs.lemmas.Bool.{leb-false}
use Rattle.std.specs.List.{AllByRecursion}
use Rattle.std.specs.Str.{bytes_eq}
use Rattle.std.specs.Cmp.Lexicographic.{bytes_decides}
use Rattle.nb_base.specs.Meanings.{Meaning, IsAmong, CanGo}
use Rattle.nb_base.specs.declared.plan.Intent.{Intent}
use Rattle.nb_base.specs.declared.plan.Target.{Target}
use Rattle.nb_base.specs.declared.plan.Target.TheVariants as target
use Rattle.nb_base.specs.declared.value.Field.{Field}
use Rattle.nb_base.specs.declared.value.Value.{Value}
use Rattle.nb_script.specs.declared.stmt.Destination.{Destination}
use Rattle.nb_script.specs.declared.stmt.Destination.TheVariants as to
use Rattle.nb_script.specs.Grammar.{MakeTerm}
use Rattle.nb_script.specs.Grammar.{Phrase, Let, Set, Put, Add, Erase, Send, Publish, Reply, Timeout, Complete, Refuse, If, Phrases, Nil, Then, Braces, Brace, Otherwise, Nothing, Last, Chain}
use Rattle.nb_check.specs.Declarations.{type_text}
use Rattle.nb_eval.specs.declared.scene.Instance.{Instance}
use Rattle.nb_eval.specs.declared.scene.State.{State}
use Rattle.nb_eval.specs.declared.scene.Touched.{Touched}
use Rattle.nb_eval.specs.declared.stop.Stop.TheVariants as stop
use Rattle.nb_eval.specs.declared.stop.Limit.TheVariants.{TooMany, TooLarge}
use Rattle.nb_eval.specs.Values.{Answer, ◌>>=◌, found, in_range}
use Rattle.nb_eval.specs.Worlds.{World, stored, put_row}
use Rattle.nb_eval.specs.Expressions.{number_or_zero, value_of, whole_of, text_of, truth_of, row_at}
use Rattle.nb_eval.specs.Making.{made, seconds_of, timed, delay_of, address, answered, from_saga, intent, with_intent, sent, target_of}
use Rattle.nb_check.specs.Sends.{routed, phrase_sends, phrases_sends, braces_sends, otherwise_sends}
use Rattle.nb_eval.specs.Statements.{with_field, with_fields, set_to, complete, with_name, leave, chosen, run, in_turn, within, otherwise}
use Rattle.nb_eval.proofs.Steps.{bind-ok, all-left, all-right, all-both}
use Rattle.nb_eval.proofs.SameKeys.{bytes-is}

-- where a call gives something, it is so
abbrev pub IfDone : {A : Type 0} → (A → Type 0) → Answer A → Type 0
IfDone Q (Ok a) = Q a
IfDone Q (Err e) = Unit {0}

pub done-bind : {A B : Type 0} (Q : B → Type 0) (x : Answer A) (f : A → Answer B) → ((a : A) → x ≡ Ok a → IfDone Q (f a)) → IfDone Q (x >>= f)
done-bind Q (Ok a) f h = h a refl
done-bind Q (Err e) f h = tt

pub done-then : {A B : Type 0} (P : A → Type 0) (Q : B → Type 0) (x : Answer A) (f : A → Answer B) → IfDone P x → ((a : A) → P a → IfDone Q (f a)) → IfDone Q (x >>= f)
done-then P Q (Ok a) f p h = h a p
done-then P Q (Err e) f p h = tt

-- ---- rows

-- each row once
abbrev pub AreOnce : List Touched → Type 0
AreOnce [] = Unit {0}
AreOnce (t ∷ ts) = AllByRecursion (λ (u : Touched). t.name ≢ u.name) ts × AreOnce ts

stored-others : (n name : List ℕ) (v : Option ℤ) (ts : List Touched) → n ≢ name → AllByRecursion (λ (u : Touched). n ≢ u.name) ts → AllByRecursion (λ (u : Touched). n ≢ u.name) (stored name v ts)
stored-others n name v [] other h = (other, tt)
stored-others n name v (t ∷ ts) other h =
    elim (bytes_eq t.name name) as (λ b. AllByRecursion (λ (u : Touched). n ≢ u.name) (cond b (record { name = name; value = v } ∷ ts) (t ∷ stored name v ts)))
    [ true ↦ (other, h.1) | false ↦ (h.0, stored-others n name v ts other h.1) ]

differs : (a b : List ℕ) → bytes_eq a b ≡ false → a ≢ b
differs a b h e = true≢false (sym ((bytes_decides a b).1 e) ∙ h)

stored-once : (name : List ℕ) (v : Option ℤ) (ts : List Touched) → AreOnce ts → AreOnce (stored name v ts)
stored-once name v [] h = (tt, tt)
stored-once name v (t ∷ ts) h =
    elim (bytes_eq t.name name) as (λ b. bytes_eq t.name name ≡ b → AreOnce (cond b (record { name = name; value = v } ∷ ts) (t ∷ stored name v ts))) [
      | true ↦ λ is. (subst (λ n. AllByRecursion (λ (u : Touched). n ≢ u.name) ts) (bytes-is t.name name is) h.0, h.1)
      | false ↦ λ is. (stored-others t.name name v ts (differs t.name name is) h.0, stored-once name v ts h.1)
    ] refl

-- ---- intents

abbrev pub CanLeave : Meaning → Intent → Type 0
CanLeave meaning x = CanGo meaning x.name (is_some x.from) x.target

abbrev pub FineIntents : Meaning → List Intent → Type 0
FineIntents meaning xs = (length xs ≤ 256) × AllByRecursion (CanLeave meaning) xs

length-more : {X : Type 0} (xs : List X) (x : X) → length (xs ++ x ∷ []) ≡ length xs + 1
length-more [] x = refl
length-more (y ∷ ys) x = omega (arith, length-more ys x)

more-fits : {X : Type 0} (xs : List X) (x : X) → nat_le 256 (length xs) ≡ false → length (xs ++ x ∷ []) ≤ 256
more-fits xs x h = omega (arith, leb-false 256 (length xs) h, length-more xs x)

-- ---- the saga

-- the same saga, but for its fields and whether it completed
abbrev pub SameSaga : Option Instance → Option Instance → Type 0
SameSaga None None = Unit {0}
SameSaga None (Some j) = ⊥
SameSaga (Some i) None = ⊥
SameSaga (Some i) (Some j) = record j { fields = i.fields; completed = i.completed } ≡ i

same_saga-refl : (o : Option Instance) → SameSaga o o
same_saga-refl None = tt
same_saga-refl (Some i) = refl

same_saga-then : (a b c : Option Instance) → SameSaga a b → SameSaga b c → SameSaga a c
same_saga-then None None None h k = tt
same_saga-then None None (Some k) h e = absurd e
same_saga-then None (Some j) c h k = absurd h
same_saga-then (Some i) None c h k = absurd h
same_saga-then (Some i) (Some j) None h k = absurd k
same_saga-then (Some i) (Some j) (Some k) h e = ap (λ (x : Instance). record x { fields = i.fields; completed = i.completed }) e ∙ h

-- ---- what statements keep

module _ (meaning : Meaning) where
  pub record Kept (s t : State) : Type 0 where
    pub writes : t.writes ≡ s.writes
    pub saga : SameSaga s.saga t.saga
    pub once : AreOnce s.touched → AreOnce t.touched
    pub intents : FineIntents meaning s.intents → FineIntents meaning t.intents

  pub kept-refl : (s : State) → Kept s s
  kept-refl s = record { writes = refl; saga = same_saga-refl s.saga; once = λ h. h; intents = λ h. h }

  pub kept-then : (s t u : State) → Kept s t → Kept t u → Kept s u
  kept-then s t u h k = record {
    writes = k.writes ∙ h.writes;
    saga = same_saga-then s.saga t.saga u.saga h.saga k.saga;
    once = λ p. k.once (h.once p);
    intents = λ p. k.intents (h.intents p);
  }

  kept-row : (name : List ℕ) (v : Option ℤ) (s : State) → Kept s (put_row name v s)
  kept-row name v s = record { writes = refl; saga = same_saga-refl s.saga; once = stored-once name v s.touched; intents = λ h. h }

  kept-name : (x : List ℕ) (v : Value) (s : State) → Kept s (with_name x v s)
  kept-name x v s = record { writes = refl; saga = same_saga-refl s.saga; once = λ h. h; intents = λ h. h }

  kept-leave : (names : List Field) (s t : State) → Kept s t → Kept s (leave names t)
  kept-leave names s t k = record { writes = k.writes; saga = k.saga; once = k.once; intents = k.intents }

  kept-saga : (s : State) (i : Instance) (fields : List Field) (done : Bool) → s.saga ≡ Some i → Kept s (record s { saga = Some (record i { fields = fields; completed = done }) })
  kept-saga s i fields done is = record {
    writes = refl;
    saga = subst (λ o. SameSaga o (Some (record i { fields = fields; completed = done }))) (sym is) refl;
    once = λ h. h;
    intents = λ h. h;
  }

  intent-kept : (x : Intent) (s : State) → CanLeave meaning x → IfDone (Kept s) (with_intent x s)
  intent-kept x s can =
      elim (nat_le 256 (length s.intents)) as (λ b. nat_le 256 (length s.intents) ≡ b → IfDone (Kept s) (cond {A = Answer State} b (Err (stop.Passed TooMany))
      (cond {A = Answer State} (nat_lt 1048576 (s.size + length x.body)) (Err (stop.Passed TooLarge)) (Ok (record s { intents = s.intents ++ x ∷ []; size = s.size + length x.body }))))) [
        | true ↦ λ e. tt
        | false ↦ λ e.
            elim (nat_lt 1048576 (s.size + length x.body)) as (λ b. IfDone (Kept s) (cond {A = Answer State} b (Err (stop.Passed TooLarge)) (Ok (record s { intents = s.intents ++ x ∷ []; size = s.size + length x.body })))) [
              | true ↦ tt
              | false ↦ record { writes = refl; saga = same_saga-refl s.saga; once = λ h. h; intents = λ h. (more-fits s.intents x e, all-both (CanLeave meaning) s.intents (x ∷ []) h.1 (can, tt)) }
            ]
      ] refl

  sent-kept : (t : Target) (d : Option ℕ) (m : MakeTerm) (w : World) (s : State) → CanGo meaning (type_text m.name) (is_some (from_saga s.saga)) t → IfDone (Kept s) (sent t d m w s)
  sent-kept t d m w s can = done-bind (Kept s) (made m.args w s) (λ fields. with_intent (intent t d m fields s) s) (λ fields is. intent-kept (intent t d m fields s) s can)

  set-kept : (f : List ℕ) (v : Value) (s : State) → IfDone (Kept s) (set_to f v s)
  set-kept f v s = of s.saga refl
    where
      of : (o : Option Instance) → s.saga ≡ o → IfDone (Kept s) (found o >>= λ i. found (with_field f v i.fields) >>= λ fields. Ok (with_fields s i fields))
      of None is = tt
      of (Some i) is = done-bind (Kept s) (found (with_field f v i.fields)) (λ fields. Ok (with_fields s i fields)) (λ fields so. kept-saga s i fields i.completed is)

  complete-kept : (s : State) → IfDone (Kept s) (complete s)
  complete-kept s = of s.saga refl
    where
      of : (o : Option Instance) → s.saga ≡ o → IfDone (Kept s) (found o >>= λ i. Ok (record s { saga = Some (record i { completed = true }) }))
      of None is = tt
      of (Some i) is = kept-saga s i i.fields true is

  route-can : (d : Destination) (m : MakeTerm) (from : Bool) → AllByRecursion (λ n. IsAmong n meaning.sends) (routed d (type_text m.name)) → CanGo meaning (type_text m.name) from (target_of d)
  route-can to.Route m from h = h.0
  route-can to.Local m from h = tt

  address-some : (a : List ℕ) → IfDone (λ (t : List ℕ). t ≢ []) (address a)
  address-some [] = tt
  address-some (c ∷ cs) = λ e. absurd (cc)

  answered-can : (o : Option ℕ) (m : MakeTerm) (from : Bool) (w : World) (s : State) → IfDone (CanGo meaning (type_text m.name) from) (answered o w s)
  answered-can None m from w s = done-then (λ (t : List ℕ). t ≢ []) (CanGo meaning (type_text m.name) from) (address w.reply_to) (λ t. Ok (target.Reply t)) (address-some w.reply_to) (λ t p. p)
  answered-can (Some at) m from w s =
      done-bind (CanGo meaning (type_text m.name) from) (found s.saga) (λ i. address i.originator >>= λ t. Ok (target.Originator t i.original))
      (λ i is. done-then (λ (t : List ℕ). t ≢ []) (CanGo meaning (type_text m.name) from) (address i.originator) (λ t. Ok (target.Originator t i.original)) (address-some i.originator) (λ t p. p))

  from-some : (o : Option Instance) (i : Instance) → found o ≡ Ok i → is_some (from_saga o) ≡ true
  from-some None i e = absurd (cc)
  from-some (Some j) i e = refl

  chosen-kept : (s : State) (yes : Bool) (a b : Answer State) → IfDone (Kept s) a → IfDone (Kept s) b → IfDone (Kept s) (chosen yes a b)
  chosen-kept s true a b p q = p
  chosen-kept s false a b p q = q

  after-kept : (s t : State) (x : Answer State) → Kept s t → IfDone (Kept t) x → IfDone (Kept s) x
  after-kept s t (Ok u) k h = kept-then s t u k h
  after-kept s t (Err e) k h = tt

  abbrev Among : List (List ℕ) → Type 0
  Among ns = AllByRecursion (λ n. IsAmong n meaning.sends) ns

  mutual
    run-kept : (d : Phrase) (w : World) (s : State) → Among (phrase_sends d) → IfDone (Kept s) (run d w s)
    run-kept (Let at q x u e c) w s h = done-bind (Kept s) (value_of e w s) (λ v. Ok (with_name x v s)) (λ v is. kept-name x v s)
    run-kept (Set at q f u e c) w s h = done-bind (Kept s) (value_of e w s) (λ v. set_to f v s) (λ v is. set-kept f v s)
    run-kept (Put at r u e c) w s h =
        done-bind (Kept s) (row_at r w s) (λ name. whole_of e w s >>= λ n. Ok (put_row name (Some n) s)) (λ name is.
        done-bind (Kept s) (whole_of e w s) (λ n. Ok (put_row name (Some n) s)) (λ n so. kept-row name (Some n) s))
    run-kept (Add at r u e c) w s h =
        done-bind (Kept s) (row_at r w s) (λ name. whole_of e w s >>= λ n. in_range (number_or_zero name w s +ℤ n) >>= λ m. Ok (put_row name (Some m) s)) (λ name is.
        done-bind (Kept s) (whole_of e w s) (λ n. in_range (number_or_zero name w s +ℤ n) >>= λ m. Ok (put_row name (Some m) s)) (λ n so.
        done-bind (Kept s) (in_range (number_or_zero name w s +ℤ n)) (λ m. Ok (put_row name (Some m) s)) (λ m ok. kept-row name (Some m) s)))
    run-kept (Erase at r c) w s h = done-bind (Kept s) (row_at r w s) (λ name. Ok (put_row name None s)) (λ name is. kept-row name None s)
    run-kept (Send a at d m c) w s h =
        done-bind (Kept s) (delay_of a w s) (λ x. sent (target_of d) x m w s) (λ x is. sent-kept (target_of d) x m w s (route-can d m (is_some (from_saga s.saga)) h))
    run-kept (Publish at m c) w s h = sent-kept target.Publish None m w s tt
    run-kept (Reply at o m c) w s h =
        done-then (CanGo meaning (type_text m.name) (is_some (from_saga s.saga))) (Kept s) (answered o w s) (λ t. sent t None m w s) (answered-can o m (is_some (from_saga s.saga)) w s) (λ t can. sent-kept t None m w s can)
    run-kept (Timeout at e m c) w s h =
        done-bind (Kept s) (timed e w s) (λ d. sent target.Timeout (Some d) m w s)
        (λ d is. let i = bind-ok (found s.saga) (λ i. seconds_of e w s) d is in sent-kept target.Timeout (Some d) m w s (from-some s.saga i.0 i.1))
    run-kept (Complete at c) w s h = complete-kept s
    run-kept (Refuse at r q n e c) w s h = done-bind (Kept s) (text_of e w s) (λ t. Err (stop.Refused r n t)) (λ t is. tt)
    run-kept (If at x b o) w s h =
        done-bind (Kept s) (truth_of x w s) (λ yes. chosen yes (within b w s) (otherwise o w s))
        (λ yes is. chosen-kept s yes (within b w s) (otherwise o w s) (within-kept b w s (all-left (λ n. IsAmong n meaning.sends) (braces_sends b) _ h)) (otherwise-kept o w s (all-right (λ n. IsAmong n meaning.sends) (braces_sends b) _ h)))

    turn-kept : (ds : Phrases) (w : World) (s : State) → Among (phrases_sends ds) → IfDone (Kept s) (in_turn ds w s)
    turn-kept Nil w s h = kept-refl s
    turn-kept (Then d ds) w s h =
        done-then (Kept s) (Kept s) (run d w s) (λ t. in_turn ds w t) (run-kept d w s (all-left (λ n. IsAmong n meaning.sends) (phrase_sends d) _ h))
        (λ t k. after-kept s t (in_turn ds w t) k (turn-kept ds w t (all-right (λ n. IsAmong n meaning.sends) (phrase_sends d) _ h)))

    pub within-kept : (b : Braces) (w : World) (s : State) → Among (braces_sends b) → IfDone (Kept s) (within b w s)
    within-kept (Brace o body c) w s h = done-then (Kept s) (Kept s) (in_turn body w s) (λ t. Ok (leave s.names t)) (turn-kept body w s h) (λ t k. kept-leave s.names s t k)

    otherwise-kept : (o : Otherwise) (w : World) (s : State) → Among (otherwise_sends o) → IfDone (Kept s) (otherwise o w s)
    otherwise-kept Nothing w s h = kept-refl s
    otherwise-kept (Last at b) w s h = within-kept b w s h
    otherwise-kept (Chain at q x b o) w s h =
        done-bind (Kept s) (truth_of x w s) (λ yes. chosen yes (within b w s) (otherwise o w s))
        (λ yes is. chosen-kept s yes (within b w s) (otherwise o w s) (within-kept b w s (all-left (λ n. IsAmong n meaning.sends) (braces_sends b) _ h)) (otherwise-kept o w s (all-right (λ n. IsAmong n meaning.sends) (braces_sends b) _ h)))
