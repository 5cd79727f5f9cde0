-- What statements do depends on the tables at their keys alone.
use Rattle.std.proofs.Common.{◌≡◌, ℕ, pos, ◌+ℤ◌, refl, sym, ap, ◌∙◌, subst, List, [], ◌∷◌, ◌++◌, Option, Some, None, unwrap_or, is_some, Ok, Err}
use Rattle.nb_base.specs.declared.plan.Target.{Target}
use Rattle.nb_base.specs.declared.plan.Target.TheVariants as target
use Rattle.nb_base.specs.declared.saga_row.Seen.{Seen}
use Rattle.nb_base.specs.declared.value.Key.{Key}
use Rattle.nb_base.specs.declared.value.Key.TheVariants as key
use Rattle.nb_base.specs.declared.value.Value.{Value}
use Rattle.nb_base.specs.declared.value.Value.TheVariants.{Int, Bool as Truth}
use Rattle.nb_script.specs.declared.expr.Constant.{Constant as ConstantWord}
use Rattle.nb_script.specs.declared.expr.Constant.TheVariants as word
use Rattle.nb_script.specs.declared.expr.Function.{Function}
use Rattle.nb_script.specs.declared.expr.Function.TheVariants as function
use Rattle.nb_script.specs.declared.expr.Holder.TheVariants as holder
use Rattle.nb_script.specs.Grammar.{Term, Number, Quoted, Constant, Field, Name, Call, Paren, Prefix, Infix, ArgTerm, MakeTerm, RowTerm, AfterTerm}
use Rattle.nb_script.specs.Grammar.{Phrase, Let, Set, Put, Add, Erase, Send, Publish, Reply, Timeout, Complete, Refuse, If, Phrases, Nil, Then, Braces, Brace, Otherwise, Nothing, Last, Chain}
use Rattle.nb_check.specs.Keys.{row_key, call_key, term_keys, named_row_keys, args_keys, delay_keys, phrase_keys, phrases_keys, braces_keys, otherwise_keys}
use Rattle.nb_check.specs.Kinds.{faults, name_faults, argument_faults, judgement}
use Rattle.nb_check.specs.Statements.{fields_of, args_faults, takes_in, missing_faults, make_faults, value_faults, row_faults, delay_faults, after, phrase_faults, phrases_faults, braces_faults, otherwise_faults, needs_saga, timeout_faults, originator_faults, placed_args}
use Rattle.nb_check.specs.Breaches.{twice}
use Rattle.nb_check.specs.Declarations.{type_text}
use Rattle.nb_check.specs.declared.breach.CheckKind.TheVariants.{FieldTwice}
use Rattle.nb_check.specs.declared.sight.Sight.{Sight}
use Rattle.nb_check.specs.declared.types.Declared.{Declared}
use Rattle.nb_check.specs.declared.types.MessageType.{MessageType}
use Rattle.nb_script.specs.declared.item.FieldKind.TheVariants as kind
use Rattle.nb_eval.specs.declared.scene.State.{State}
use Rattle.nb_eval.specs.declared.stop.Stop.TheVariants as stop
use Rattle.nb_eval.specs.Values.{◌>>=◌, found, whole, text, truth, binary, unary, in_range}
use Rattle.nb_eval.specs.Worlds.{World, named, touched_at, or_there, row_now, put_row}
use Rattle.nb_eval.specs.Expressions.{constant_value, row_name, number_or_zero, call_value, value_of, whole_of, truth_of, row_at}
use Rattle.nb_eval.specs.Making.{made, delay_in, seconds_of, timed, delay_of, answered, intent, with_intent, sent, target_of}
use Rattle.nb_eval.specs.Statements.{with_name, set_to, left, chosen, run, in_turn, within, otherwise}
use Rattle.nb_eval.proofs.Steps.{left-nil, right-nil, bind-same, all-left, all-right}
use Rattle.nb_eval.proofs.SameKeys.{Agree}
use Rattle.nb_eval.proofs.Names.{known_of, named-key}

abbrev pub at_look : World → (Key → Seen) → World
at_look w l = record w { look = l }

pub agree-left : (look other : Key → Seen) (ks js : List Key) → Agree look other (ks ++ js) → Agree look other ks
agree-left look other ks js h = all-left (λ k. look k ≡ other k) ks js h

pub agree-right : (look other : Key → Seen) (ks js : List Key) → Agree look other (ks ++ js) → Agree look other js
agree-right look other ks js h = all-right (λ k. look k ≡ other k) ks js h

-- a row that is named shows the same
row-agrees : (a : Term) (g : Sight) → name_faults a g ≡ [] → (w : World) (s : State) (l : Key → Seen) → Agree w.look l (row_key a (known_of w)) → (name : List ℕ)
    → (value_of a w s >>= row_name) ≡ Ok name → l (key.Row name) ≡ w.look (key.Row name)
row-agrees a g h w s l agree name e = sym (subst (λ ks. Agree w.look l ks) (named-key a g h w s name e) agree).0

row_now-same : (name : List ℕ) (w : World) (s : State) (l : Key → Seen) → l (key.Row name) ≡ w.look (key.Row name) → row_now name (at_look w l) s ≡ row_now name w s
row_now-same name w s l e = ap (or_there (touched_at name s.touched)) e

zero-same : (name : List ℕ) (w : World) (s : State) (l : Key → Seen) → l (key.Row name) ≡ w.look (key.Row name) → number_or_zero name (at_look w l) s ≡ number_or_zero name w s
zero-same name w s l e = ap (λ o. unwrap_or o (pos 0)) (row_now-same name w s l e)

-- ---- expressions

constant-same : (c : ConstantWord) (w : World) (l : Key → Seen) → constant_value c (at_look w l) ≡ constant_value c w
constant-same word.True w l = refl
constant-same word.False w l = refl
constant-same word.Retries w l = refl
constant-same word.Now w l = refl
constant-same word.Sent w l = refl
constant-same word.Id w l = refl

-- what is made of a value that names a row
named-value : (a : Term) (w : World) (s : State) (v : Value) (name : List ℕ) → value_of a w s ≡ Ok v → row_name v ≡ Ok name → (value_of a w s >>= row_name) ≡ Ok name
named-value a w s v name is e = ap (λ x. x >>= row_name) is ∙ e

call-same : (f : Function) (a : Term) (g : Sight) → argument_faults f a g ≡ [] → (w : World) (s : State) (l : Key → Seen) → Agree w.look l (call_key f a (known_of w)) → (v : Value)
    → value_of a w s ≡ Ok v → call_value f (at_look w l) s v ≡ call_value f w s v
call-same function.Row a g h w s l agree v is =
    bind-same (row_name v) (λ name. Ok (Int (number_or_zero name (at_look w l) s))) (λ name. Ok (Int (number_or_zero name w s)))
    (λ name e. ap (λ n. Ok (Int n)) (zero-same name w s l (row-agrees a g h w s l agree name (named-value a w s v name is e))))
call-same function.Has a g h w s l agree v is =
    bind-same (row_name v) (λ name. Ok (Truth (is_some (row_now name (at_look w l) s)))) (λ name. Ok (Truth (is_some (row_now name w s))))
    (λ name e. ap (λ o. Ok (Truth (is_some o))) (row_now-same name w s l (row-agrees a g h w s l agree name (named-value a w s v name is e))))
call-same function.Text a g h w s l agree v is = refl
call-same function.Len a g h w s l agree v is = refl

pub value-local : (e : Term) (g : Sight) → faults e g ≡ [] → (w : World) (s : State) (l : Key → Seen) → Agree w.look l (term_keys e (known_of w)) → value_of e (at_look w l) s ≡ value_of e w s
value-local (Number at n) g h w s l agree = refl
value-local (Quoted at t) g h w s l agree = refl
value-local (Constant at c) g h w s l agree = ap Ok (constant-same c w l)
value-local (Field at holder.Message d q f) g h w s l agree = refl
value-local (Field at holder.Saga d q f) g h w s l agree = refl
value-local (Name at x) g h w s l agree = refl
value-local (Call at f o a c) g h w s l agree =
    ap (λ x. x >>= call_value f (at_look w l) s) (value-local a g (left-nil (faults a g) _ h) w s l (agree-left w.look l (term_keys a (known_of w)) _ agree))
    ∙ bind-same (value_of a w s) (call_value f (at_look w l) s) (call_value f w s)
    (λ v is. call-same f a g (right-nil (faults a g) _ h) w s l (agree-right w.look l (term_keys a (known_of w)) _ agree) v is)
value-local (Paren o a c) g h w s l agree = value-local a g h w s l agree
value-local (Prefix at op a) g h w s l agree = ap (λ x. x >>= unary op) (value-local a g (left-nil (faults a g) _ h) w s l agree)
value-local (Infix a at op b) g h w s l agree =
    let parts : faults a g ++ faults b g ≡ [] = left-nil (faults a g ++ faults b g) _ h in
    ap (λ x. binary op x (value_of b (at_look w l) s)) (value-local a g (left-nil (faults a g) _ parts) w s l (agree-left w.look l (term_keys a (known_of w)) _ agree))
    ∙ ap (binary op (value_of a w s)) (value-local b g (right-nil (faults a g) _ parts) w s l (agree-right w.look l (term_keys a (known_of w)) _ agree))

-- ---- parts of statements

row-local : (r : RowTerm) (g : Sight) → row_faults r g ≡ [] → (w : World) (s : State) (l : Key → Seen) → Agree w.look l (named_row_keys r (known_of w)) → row_at r (at_look w l) s ≡ row_at r w s
row-local r g h w s l agree =
    ap (λ x. x >>= row_name) (value-local r.name g (left-nil (faults r.name g) _ h) w s l (agree-left w.look l (term_keys r.name (known_of w)) _ agree))

whole-local : (e : Term) (g : Sight) → faults e g ≡ [] → (w : World) (s : State) (l : Key → Seen) → Agree w.look l (term_keys e (known_of w)) → whole_of e (at_look w l) s ≡ whole_of e w s
whole-local e g h w s l agree = ap (λ x. x >>= whole) (value-local e g h w s l agree)

truth-local : (e : Term) (g : Sight) → faults e g ≡ [] → (w : World) (s : State) (l : Key → Seen) → Agree w.look l (term_keys e (known_of w)) → truth_of e (at_look w l) s ≡ truth_of e w s
truth-local e g h w s l agree = ap (λ x. x >>= truth) (value-local e g h w s l agree)

seconds-local : (e : Term) (g : Sight) → faults e g ≡ [] → (w : World) (s : State) (l : Key → Seen) → Agree w.look l (term_keys e (known_of w)) → seconds_of e (at_look w l) s ≡ seconds_of e w s
seconds-local e g h w s l agree = ap (λ x. x >>= delay_in) (whole-local e g h w s l agree)

timed-local : (e : Term) (g : Sight) → faults e g ≡ [] → (w : World) (s : State) (l : Key → Seen) → Agree w.look l (term_keys e (known_of w)) → timed e (at_look w l) s ≡ timed e w s
timed-local e g h w s l agree = bind-same (found s.saga) (λ i. seconds_of e (at_look w l) s) (λ i. seconds_of e w s) (λ i is. seconds-local e g h w s l agree)

delay-local : (a : Option AfterTerm) (g : Sight) → delay_faults a g ≡ [] → (w : World) (s : State) (l : Key → Seen) → Agree w.look l (delay_keys a (known_of w)) → delay_of a (at_look w l) s ≡ delay_of a w s
delay-local None g h w s l agree = refl
delay-local (Some a) g h w s l agree = ap (λ x. x >>= λ d. Ok (Some d)) (seconds-local a.delay g (left-nil (faults a.delay g) _ h) w s l agree)

args-local : (ds : Option (List Declared)) (args : List ArgTerm) (g : Sight) → args_faults ds args g ≡ [] → (w : World) (s : State) (l : Key → Seen) → Agree w.look l (args_keys args (known_of w))
    → made args (at_look w l) s ≡ made args w s
args-local ds [] g h w s l agree = refl
args-local ds (a ∷ more) g h w s l agree =
    let one : faults a.value g ++ takes_in ds a.name a.at (judgement a.value g) ≡ [] = left-nil (faults a.value g ++ takes_in ds a.name a.at (judgement a.value g)) _ h in
    ap (λ x. x >>= λ v. made more (at_look w l) s >>= λ fs. Ok (named a.name v ∷ fs))
    (value-local a.value g (left-nil (faults a.value g) _ one) w s l (agree-left w.look l (term_keys a.value (known_of w)) _ agree))
    ∙ ap (λ y. value_of a.value w s >>= λ v. y >>= λ fs. Ok (named a.name v ∷ fs))
    (args-local ds more g (right-nil (faults a.value g ++ takes_in ds a.name a.at (judgement a.value g)) _ h) w s l (agree-right w.look l (term_keys a.value (known_of w)) _ agree))

make-local : (ms : List MessageType) (m : MakeTerm) (g : Sight) → make_faults ms m g ≡ [] → (w : World) (s : State) (l : Key → Seen) → Agree w.look l (args_keys m.args (known_of w))
    → made m.args (at_look w l) s ≡ made m.args w s
make-local ms m g h w s l agree =
    let ds = fields_of (type_text m.name) ms in
    args-local ds m.args g (right-nil (twice FieldTwice (placed_args m.args)) _ (right-nil (missing_faults ds m) _ h)) w s l agree

sent-local : (t : Target) (d : Option ℕ) (m : MakeTerm) (w : World) (s : State) (l : Key → Seen) → made m.args (at_look w l) s ≡ made m.args w s → sent t d m (at_look w l) s ≡ sent t d m w s
sent-local t d m w s l e = ap (λ x. x >>= λ fields. with_intent (intent t d m fields s) s) e

answered-local : (o : Option ℕ) (w : World) (s : State) (l : Key → Seen) → answered o (at_look w l) s ≡ answered o w s
answered-local None w s l = refl
answered-local (Some at) w s l = refl

-- ---- statements

left-values : (k : _) (e : Term) (g : Sight) → value_faults k e g ≡ [] → faults e g ≡ []
left-values k e g h = left-nil (faults e g) _ h

mutual
  pub run-local : (ms : List MessageType) (d : Phrase) (g : Sight) → phrase_faults ms d g ≡ [] → (w : World) (s : State) (l : Key → Seen) → Agree w.look l (phrase_keys d (known_of w)) → run d (at_look w l) s ≡ run d w s
  run-local ms (Let at q x u e c) g h w s l agree = ap (λ y. y >>= λ v. Ok (with_name x v s)) (value-local e g (left-nil (faults e g) _ h) w s l agree)
  run-local ms (Set at q f u e c) g h w s l agree = ap (λ y. y >>= λ v. set_to f v s) (value-local e g (left-nil (faults e g) _ h) w s l agree)
  run-local ms (Put at r u e c) g h w s l agree =
      ap (λ y. y >>= λ name. whole_of e (at_look w l) s >>= λ n. Ok (put_row name (Some n) s)) (row-local r g (left-nil (row_faults r g) _ h) w s l (agree-left w.look l (named_row_keys r (known_of w)) _ agree))
      ∙ ap (λ y. row_at r w s >>= λ name. y >>= λ n. Ok (put_row name (Some n) s))
      (whole-local e g (left-values kind.Int e g (right-nil (row_faults r g) _ h)) w s l (agree-right w.look l (named_row_keys r (known_of w)) _ agree))
  run-local ms (Add at r u e c) g h w s l agree =
      let w' = at_look w l in
      let rows = agree-left w.look l (named_row_keys r (known_of w)) _ agree in
      let fine : row_faults r g ≡ [] = left-nil (row_faults r g) _ h in
      ap (λ y. y >>= λ name. whole_of e w' s >>= λ n. in_range (number_or_zero name w' s +ℤ n) >>= λ m. Ok (put_row name (Some m) s)) (row-local r g fine w s l rows)
      ∙ ap (λ y. row_at r w s >>= λ name. y >>= λ n. in_range (number_or_zero name w' s +ℤ n) >>= λ m. Ok (put_row name (Some m) s))
      (whole-local e g (left-values kind.Int e g (right-nil (row_faults r g) _ h)) w s l (agree-right w.look l (named_row_keys r (known_of w)) _ agree))
      ∙ bind-same (row_at r w s) (λ name. whole_of e w s >>= λ n. in_range (number_or_zero name w' s +ℤ n) >>= λ m. Ok (put_row name (Some m) s))
      (λ name. whole_of e w s >>= λ n. in_range (number_or_zero name w s +ℤ n) >>= λ m. Ok (put_row name (Some m) s))
      (λ name is. ap (λ z. whole_of e w s >>= λ n. in_range (z +ℤ n) >>= λ m. Ok (put_row name (Some m) s))
      (zero-same name w s l (row-agrees r.name g (right-nil (faults r.name g) _ fine) w s l (agree-right w.look l (term_keys r.name (known_of w)) _ rows) name is)))
  run-local ms (Erase at r c) g h w s l agree = ap (λ y. y >>= λ name. Ok (put_row name None s)) (row-local r g h w s l agree)
  run-local ms (Send a at to m c) g h w s l agree =
      ap (λ y. y >>= λ d. sent (target_of to) d m (at_look w l) s) (delay-local a g (left-nil (delay_faults a g) _ h) w s l (agree-left w.look l (delay_keys a (known_of w)) _ agree))
      ∙ bind-same (delay_of a w s) (λ d. sent (target_of to) d m (at_look w l) s) (λ d. sent (target_of to) d m w s)
      (λ d is. sent-local (target_of to) d m w s l (make-local ms m g (right-nil (delay_faults a g) _ h) w s l (agree-right w.look l (delay_keys a (known_of w)) _ agree)))
  run-local ms (Publish at m c) g h w s l agree = sent-local target.Publish None m w s l (make-local ms m g h w s l agree)
  run-local ms (Reply at o m c) g h w s l agree =
      ap (λ y. y >>= λ t. sent t None m (at_look w l) s) (answered-local o w s l)
      ∙ bind-same (answered o w s) (λ t. sent t None m (at_look w l) s) (λ t. sent t None m w s)
      (λ t is. sent-local t None m w s l (make-local ms m g (right-nil (originator_faults at o g.saga) _ h) w s l agree))
  run-local ms (Timeout at e m c) g h w s l agree =
      let rest = right-nil (needs_saga at g.saga) _ h in
      ap (λ y. y >>= λ d. sent target.Timeout (Some d) m (at_look w l) s)
      (timed-local e g (left-values kind.Int e g (left-nil (value_faults kind.Int e g) _ rest)) w s l (agree-left w.look l (term_keys e (known_of w)) _ agree))
      ∙ bind-same (timed e w s) (λ d. sent target.Timeout (Some d) m (at_look w l) s) (λ d. sent target.Timeout (Some d) m w s)
      (λ d is. sent-local target.Timeout (Some d) m w s l
      (make-local ms m g (right-nil (timeout_faults m.name g.saga) _ (right-nil (value_faults kind.Int e g) _ rest)) w s l (agree-right w.look l (term_keys e (known_of w)) _ agree)))
  run-local ms (Complete at c) g h w s l agree = refl
  run-local ms (Refuse at r q n e c) g h w s l agree = ap (λ y. y >>= text >>= λ t. Err (stop.Refused r n t)) (value-local e g (left-nil (faults e g) _ h) w s l agree)
  run-local ms (If at x b o) g h w s l agree =
      let rest = right-nil (value_faults kind.Bool x g) _ h in
      let more = agree-right w.look l (term_keys x (known_of w)) _ agree in
      ap (λ y. y >>= λ yes. chosen yes (within b (at_look w l) s) (otherwise o (at_look w l) s))
      (truth-local x g (left-values kind.Bool x g (left-nil (value_faults kind.Bool x g) _ h)) w s l (agree-left w.look l (term_keys x (known_of w)) _ agree))
      ∙ ap (λ y. truth_of x w s >>= λ yes. chosen yes y (otherwise o (at_look w l) s)) (within-local ms b g (left-nil (braces_faults ms b g) _ rest) w s l (agree-left w.look l (braces_keys b (known_of w)) _ more))
      ∙ ap (λ y. truth_of x w s >>= λ yes. chosen yes (within b w s) y) (otherwise-local ms o g (right-nil (braces_faults ms b g) _ rest) w s l (agree-right w.look l (braces_keys b (known_of w)) _ more))

  pub turn-local : (ms : List MessageType) (ds : Phrases) (g : Sight) → phrases_faults ms ds g ≡ [] → (w : World) (s : State) (l : Key → Seen) → Agree w.look l (phrases_keys ds (known_of w)) → in_turn ds (at_look w l) s ≡ in_turn ds w s
  turn-local ms Nil g h w s l agree = refl
  turn-local ms (Then d ds) g h w s l agree =
      ap (λ y. y >>= λ t. in_turn ds (at_look w l) t) (run-local ms d g (left-nil (phrase_faults ms d g) _ h) w s l (agree-left w.look l (phrase_keys d (known_of w)) _ agree))
      ∙ bind-same (run d w s) (λ t. in_turn ds (at_look w l) t) (λ t. in_turn ds w t)
      (λ t is. turn-local ms ds (after d g) (right-nil (phrase_faults ms d g) _ h) w t l (agree-right w.look l (phrase_keys d (known_of w)) _ agree))

  pub within-local : (ms : List MessageType) (b : Braces) (g : Sight) → braces_faults ms b g ≡ [] → (w : World) (s : State) (l : Key → Seen) → Agree w.look l (braces_keys b (known_of w)) → within b (at_look w l) s ≡ within b w s
  within-local ms (Brace o body c) g h w s l agree = ap (left s) (turn-local ms body g h w s l agree)

  pub otherwise-local : (ms : List MessageType) (o : Otherwise) (g : Sight) → otherwise_faults ms o g ≡ [] → (w : World) (s : State) (l : Key → Seen) → Agree w.look l (otherwise_keys o (known_of w)) → otherwise o (at_look w l) s ≡ otherwise o w s
  otherwise-local ms Nothing g h w s l agree = refl
  otherwise-local ms (Last at b) g h w s l agree = within-local ms b g h w s l agree
  otherwise-local ms (Chain at q x b o) g h w s l agree =
      let rest = right-nil (value_faults kind.Bool x g) _ h in
      let more = agree-right w.look l (term_keys x (known_of w)) _ agree in
      ap (λ y. y >>= λ yes. chosen yes (within b (at_look w l) s) (otherwise o (at_look w l) s))
      (truth-local x g (left-values kind.Bool x g (left-nil (value_faults kind.Bool x g) _ h)) w s l (agree-left w.look l (term_keys x (known_of w)) _ agree))
      ∙ ap (λ y. truth_of x w s >>= λ yes. chosen yes y (otherwise o (at_look w l) s)) (within-local ms b g (left-nil (braces_faults ms b g) _ rest) w s l (agree-left w.look l (braces_keys b (known_of w)) _ more))
      ∙ ap (λ y. truth_of x w s >>= λ yes. chosen yes (within b w s) y) (otherwise-local ms o g (right-nil (braces_faults ms b g) _ rest) w s l (agree-right w.look l (braces_keys b (known_of w)) _ more))
