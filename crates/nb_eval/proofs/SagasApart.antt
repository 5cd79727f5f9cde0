-- The blocks that a message meets are of sagas that differ.
use Rattle.std.proofs.Common.{◌≡◌, ◌≢◌, ◌≤◌, ℕ, refl, sym, ap, ◌∙◌, subst, List, [], ◌∷◌, ◌++◌, length, Bool, true, false, not, ◌&&◌, cond, true≢false, arith}
use Rattle.std.specs.List.{AllByRecursion}
use Rattle.std.specs.Str.{bytes_eq}
use Rattle.nb_script.specs.declared.item.Answer.TheVariants.{Reply, Timeout}
use Rattle.nb_script.specs.Grammar.{PartTerm, ByField, ById, ItemTerm, Message, Handler, Saga}
use Rattle.nb_check.specs.Blocks.{Role, Handles, Finds, Answers, BlockTerm, handler_block, part_block, part_blocks, blocks}
use Rattle.nb_check.specs.Breaches.{again, twice}
use Rattle.nb_check.specs.Declarations.{type_text}
use Rattle.nb_check.specs.Meets.{addresses, is_met}
use Rattle.nb_check.specs.Rules.{placed_type, placed_sagas, placed_parts, placed_timeouts, declared_faults, saga_faults, item_faults, items_faults}
use Rattle.nb_check.specs.declared.breach.CheckKind.TheVariants.{SagaTwice, PartTwice}
use Rattle.nb_check.specs.declared.breach.Placed.{Placed}
use Rattle.nb_check.specs.declared.incoming.Incoming.{Incoming}
use Rattle.nb_check.specs.declared.types.MessageType.{MessageType}
use Rattle.nb_eval.proofs.Steps.{left-nil, right-nil, and-left, and-right, all-both}
use Rattle.nb_eval.proofs.SameKeys.{bytes-is, bytes-refl}
use Rattle.nb_eval.proofs.CheckedBlocks.{others-differ, not-both}

abbrev pub role_sagas : Role → List (List ℕ)
role_sagas Handles = []
role_sagas (Finds f saga field) = saga ∷ []
role_sagas (Answers a saga) = saga ∷ []

-- the sagas of the blocks that are met
abbrev pub met_sagas : Incoming → List BlockTerm → List (List ℕ)
met_sagas m [] = []
met_sagas m (b ∷ bs) = cond (is_met m b) (role_sagas b.role) [] ++ met_sagas m bs

abbrev pub AllApart : List (List ℕ) → Type 0
AllApart [] = Unit {0}
AllApart (n ∷ ns) = AllByRecursion (λ k. k ≢ n) ns × AllApart ns

append-same : {X : Type 0} (xs ys zs : List X) → (xs ++ ys) ++ zs ≡ xs ++ (ys ++ zs)
append-same [] ys zs = refl
append-same (x ∷ xs) ys zs = ap (λ r. x ∷ r) (append-same xs ys zs)

met_sagas-append : (m : Incoming) (xs ys : List BlockTerm) → met_sagas m (xs ++ ys) ≡ met_sagas m xs ++ met_sagas m ys
met_sagas-append m [] ys = refl
met_sagas-append m (x ∷ xs) ys =
    ap (λ r. cond (is_met m x) (role_sagas x.role) [] ++ r) (met_sagas-append m xs ys) ∙ sym (append-same (cond (is_met m x) (role_sagas x.role) []) (met_sagas m xs) (met_sagas m ys))

and-false : (a b : Bool) → b ≡ false → a && b ≡ false
and-false true b h = h
and-false false b h = refl

first-false : (a b : Bool) → a ≡ false → a && b ≡ false
first-false true b h = absurd (true≢false h)
first-false false b h = refl

-- ---- parts of one saga

module _ (m : Incoming) (saga : List ℕ) where
  skip : (b : BlockTerm) (bs : List BlockTerm) → is_met m b ≡ false → met_sagas m bs ≡ [] → met_sagas m (b ∷ bs) ≡ []
  skip b bs h e = ap (λ t. cond t (role_sagas b.role) [] ++ met_sagas m bs) h ∙ e

  no-parts : (ps : List PartTerm) → m.timeout ≡ false → AllByRecursion (λ (p : Placed). bytes_eq p.name m.name ≡ false) (placed_parts ps) → met_sagas m (part_blocks saga ps) ≡ []
  no-parts [] t h = refl
  no-parts (ByField at f n q u field b ∷ ps) t h =
      skip (part_block saga (ByField at f n q u field b)) (part_blocks saga ps) (first-false (bytes_eq m.name (type_text n)) _ (not-both (type_text n) m.name h.0)) (no-parts ps t h.1)
  no-parts (ById at Reply n b ∷ ps) t h = skip (part_block saga (ById at Reply n b)) (part_blocks saga ps) (first-false (bytes_eq m.name (type_text n)) _ (not-both (type_text n) m.name h.0)) (no-parts ps t h.1)
  no-parts (ById at Timeout n b ∷ ps) t h =
      skip (part_block saga (ById at Timeout n b)) (part_blocks saga ps) (and-false (bytes_eq m.name (type_text n)) _ (first-false m.timeout (addresses m.address saga) t)) (no-parts ps t h)

  not-of : (b : Bool) → b ≡ true → not b ≡ false
  not-of true h = refl
  not-of false h = absurd (true≢false (sym h))

  no-timeouts : (ps : List PartTerm) → m.timeout ≡ true → AllByRecursion (λ (p : Placed). bytes_eq p.name m.name ≡ false) (placed_timeouts ps) → met_sagas m (part_blocks saga ps) ≡ []
  no-timeouts [] t h = refl
  no-timeouts (ByField at f n q u field b ∷ ps) t h =
      skip (part_block saga (ByField at f n q u field b)) (part_blocks saga ps) (and-false (bytes_eq m.name (type_text n)) _ (not-of m.timeout t)) (no-timeouts ps t h)
  no-timeouts (ById at Reply n b ∷ ps) t h =
      skip (part_block saga (ById at Reply n b)) (part_blocks saga ps) (and-false (bytes_eq m.name (type_text n)) _ (first-false (not m.timeout) (addresses m.address saga) (not-of m.timeout t))) (no-timeouts ps t h)
  no-timeouts (ById at Timeout n b ∷ ps) t h = skip (part_block saga (ById at Timeout n b)) (part_blocks saga ps) (first-false (bytes_eq m.name (type_text n)) _ (not-both (type_text n) m.name h.0)) (no-timeouts ps t h.1)

  not-true : (b : Bool) → not b ≡ true → b ≡ false
  not-true true h = absurd (true≢false (sym h))
  not-true false h = refl

  renamed : (a b : List ℕ) (ps : List Placed) → a ≡ b → AllByRecursion (λ (p : Placed). bytes_eq p.name b ≡ false) ps → AllByRecursion (λ (p : Placed). bytes_eq p.name a ≡ false) ps
  renamed a b ps e h = subst (λ n. AllByRecursion (λ (p : Placed). bytes_eq p.name n ≡ false) ps) (sym e) h

  -- a part that is met, of a message that is no timeout
  part-alone : (n : _) (x : Bool) (ps : List PartTerm) → bytes_eq m.name (type_text n) && x ≡ true → m.timeout ≡ false → twice PartTwice (placed_type n ∷ placed_parts ps) ≡ [] → met_sagas m (part_blocks saga ps) ≡ []
  part-alone n x ps met t h =
      no-parts ps t (renamed m.name (type_text n) (placed_parts ps) (bytes-is m.name (type_text n) (and-left (bytes_eq m.name (type_text n)) x met))
      (others-differ PartTwice (type_text n) (placed_parts ps) (left-nil (again PartTwice (type_text n) (placed_parts ps)) _ h)))

  one-or-none : (b : BlockTerm) (bs : List BlockTerm) → b.role ≡ b.role → length (role_sagas b.role) ≤ 1 → (is_met m b ≡ true → met_sagas m bs ≡ []) → length (met_sagas m bs) ≤ 1 → length (met_sagas m (b ∷ bs)) ≤ 1
  one-or-none b bs r one alone rest =
      (elim (is_met m b) as (λ t. (t ≡ true → met_sagas m bs ≡ []) → length (cond t (role_sagas b.role) [] ++ met_sagas m bs) ≤ 1) [
        | true ↦ λ alone. subst (λ ns. length (role_sagas b.role ++ ns) ≤ 1) (sym (alone refl)) (subst (λ ns. length ns ≤ 1) (append-nil (role_sagas b.role)) one)
        | false ↦ λ alone. rest
      ]) alone
    where
      append-nil : (xs : List (List ℕ)) → xs ≡ xs ++ []
      append-nil [] = refl
      append-nil (x ∷ xs) = ap (λ r. x ∷ r) (append-nil xs)

  few-met : (ps : List PartTerm) → twice PartTwice (placed_parts ps) ≡ [] → twice PartTwice (placed_timeouts ps) ≡ [] → length (met_sagas m (part_blocks saga ps)) ≤ 1
  few-met [] h k = omega arith
  few-met (ByField at f n q u field b ∷ ps) h k =
      one-or-none (part_block saga (ByField at f n q u field b)) (part_blocks saga ps) refl (omega arith)
      (λ met. part-alone n (not m.timeout) ps met (not-true m.timeout (and-right (bytes_eq m.name (type_text n)) _ met)) h)
      (few-met ps (right-nil (again PartTwice (type_text n) (placed_parts ps)) _ h) k)
  few-met (ById at Reply n b ∷ ps) h k =
      one-or-none (part_block saga (ById at Reply n b)) (part_blocks saga ps) refl (omega arith)
      (λ met. part-alone n (not m.timeout && addresses m.address saga) ps met (not-true m.timeout (and-left (not m.timeout) _ (and-right (bytes_eq m.name (type_text n)) _ met))) h)
      (few-met ps (right-nil (again PartTwice (type_text n) (placed_parts ps)) _ h) k)
  few-met (ById at Timeout n b ∷ ps) h k =
      one-or-none (part_block saga (ById at Timeout n b)) (part_blocks saga ps) refl (omega arith)
      (λ met. no-timeouts ps (and-left m.timeout _ (and-right (bytes_eq m.name (type_text n)) _ met)) (renamed m.name (type_text n) (placed_timeouts ps) (bytes-is m.name (type_text n) (and-left (bytes_eq m.name (type_text n)) _ met))
      (others-differ PartTwice (type_text n) (placed_timeouts ps) (left-nil (again PartTwice (type_text n) (placed_timeouts ps)) _ k))))
      (few-met ps h (right-nil (again PartTwice (type_text n) (placed_timeouts ps)) _ k))

  all-same : (ps : List PartTerm) → AllByRecursion (λ n. n ≡ saga) (met_sagas m (part_blocks saga ps))
  all-same [] = tt
  all-same (ByField at f n q u field b ∷ ps) = all-both (λ n. n ≡ saga) _ _ (here (is_met m (part_block saga (ByField at f n q u field b)))) (all-same ps)
    where
      here : (t : Bool) → AllByRecursion (λ n. n ≡ saga) (cond t (saga ∷ []) [])
      here true = (refl, tt)
      here false = tt
  all-same (ById at a n b ∷ ps) = all-both (λ n. n ≡ saga) _ _ (here (is_met m (part_block saga (ById at a n b)))) (all-same ps)
    where
      here : (t : Bool) → AllByRecursion (λ n. n ≡ saga) (cond t (saga ∷ []) [])
      here true = (refl, tt)
      here false = tt

-- ---- sagas

differ-from : (a b : List ℕ) → bytes_eq a b ≡ false → a ≢ b
differ-from a b h e = true≢false (sym (subst (λ b. bytes_eq a b ≡ true) e (bytes-refl a)) ∙ h)

others : (saga name : List ℕ) (ns : List (List ℕ)) → bytes_eq name saga ≡ false → AllByRecursion (λ n. n ≡ name) ns → AllByRecursion (λ n. n ≢ saga) ns
others saga name [] h all = tt
others saga name (n ∷ ns) h all = (subst (λ n. n ≢ saga) (sym all.0) (differ-from name saga h), others saga name ns h all.1)

later-differ : (m : Incoming) (saga : List ℕ) (items : List ItemTerm) → AllByRecursion (λ (p : Placed). bytes_eq p.name saga ≡ false) (placed_sagas items) → AllByRecursion (λ n. n ≢ saga) (met_sagas m (blocks items))
later-differ m saga [] h = tt
later-differ m saga (Message at n o fs c ∷ items) h = later-differ m saga items h
later-differ m saga (Handler at n b ∷ items) h = subst (λ ns. AllByRecursion (λ n. n ≢ saga) ns) (sym (no-saga (is_met m (handler_block n b)))) (later-differ m saga items h)
  where
    no-saga : (t : Bool) → cond {A = List (List ℕ)} t [] [] ++ met_sagas m (blocks items) ≡ met_sagas m (blocks items)
    no-saga true = refl
    no-saga false = refl
later-differ m saga (Saga s ∷ items) h =
    subst (λ ns. AllByRecursion (λ n. n ≢ saga) ns) (sym (met_sagas-append m (part_blocks s.name s.parts) (blocks items)))
    (all-both (λ n. n ≢ saga) (met_sagas m (part_blocks s.name s.parts)) (met_sagas m (blocks items)) (others saga s.name (met_sagas m (part_blocks s.name s.parts)) h.0 (all-same m s.name s.parts)) (later-differ m saga items h.1))

join-apart : (name : List ℕ) (ns more : List (List ℕ)) → length ns ≤ 1 → AllByRecursion (λ n. n ≡ name) ns → AllByRecursion (λ n. n ≢ name) more → AllApart more → AllApart (ns ++ more)
join-apart name [] more few all other apart = apart
join-apart name (n ∷ []) more few all other apart = (subst (λ n. AllByRecursion (λ k. k ≢ n) more) (sym all.0) other, apart)
join-apart name (n ∷ k ∷ ns) more few all other apart = absurd (omega (arith, few))

pub sagas-apart : (m : Incoming) (ms : List MessageType) (items : List ItemTerm) → twice SagaTwice (placed_sagas items) ≡ [] → items_faults ms items ≡ [] → AllApart (met_sagas m (blocks items))
sagas-apart m ms [] h k = tt
sagas-apart m ms (Message at n o fs c ∷ items) h k = sagas-apart m ms items h (right-nil (item_faults ms (Message at n o fs c)) _ k)
sagas-apart m ms (Handler at n b ∷ items) h k = subst (λ ns. AllApart ns) (sym (no-saga (is_met m (handler_block n b)))) (sagas-apart m ms items h (right-nil (item_faults ms (Handler at n b)) _ k))
  where
    no-saga : (t : Bool) → cond {A = List (List ℕ)} t [] [] ++ met_sagas m (blocks items) ≡ met_sagas m (blocks items)
    no-saga true = refl
    no-saga false = refl
sagas-apart m ms (Saga s ∷ items) h k =
    let rest = right-nil (declared_faults s) _ (left-nil (saga_faults ms s) _ k) in
    let rest2 = right-nil (twice PartTwice (placed_parts s.parts)) _ rest in
    subst (λ ns. AllApart ns) (sym (met_sagas-append m (part_blocks s.name s.parts) (blocks items)))
    (join-apart s.name (met_sagas m (part_blocks s.name s.parts)) (met_sagas m (blocks items))
    (few-met m s.name s.parts (left-nil (twice PartTwice (placed_parts s.parts)) _ rest) (left-nil (twice PartTwice (placed_timeouts s.parts)) _ rest2))
    (all-same m s.name s.parts)
    (later-differ m s.name items (others-differ SagaTwice s.name (placed_sagas items) (left-nil (again SagaTwice s.name (placed_sagas items)) _ h)))
    (sagas-apart m ms items (right-nil (again SagaTwice s.name (placed_sagas items)) _ h) (right-nil (saga_faults ms s) _ k)))
