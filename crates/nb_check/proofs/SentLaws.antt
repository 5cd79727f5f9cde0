-- What a script that breaks no rule sends is declared.
use Rattle.std.proofs.Common.{◌≡◌, ℕ, suc, List, [], ◌∷◌, ◌++◌, true, false, cond, Option, Some, None, refl, sym, ap, subst}
use Rattle.std.specs.List.{AllByRecursion}
use Rattle.std.specs.Str.{bytes_eq}
use Rattle.std.proofs.lemmas.Slice.Eq.{bytes_eq-Decides}
use Rattle.nb_base.specs.Meanings.{IsAmong}
use Rattle.nb_script.specs.declared.expr.TypeName.{TypeName}
use Rattle.nb_script.specs.declared.stmt.Destination.TheVariants.{Route, Local}
use Rattle.nb_script.specs.Grammar.{MakeTerm, ItemTerm, Message, Handler, Saga, PartTerm, ByField, ById}
use Rattle.nb_script.specs.Grammar.{Phrase, Let, Set, Put, Add, Erase, Send, Publish, Reply, Timeout, Complete, Refuse, If, Phrases, Nil, Then, Braces, Brace, Otherwise, Nothing, Last, Chain}
use Rattle.nb_script.specs.declared.item.FieldKind.{FieldKind}
use Rattle.nb_script.specs.declared.item.FieldKind.TheVariants.{Bool as Truth}
use Rattle.nb_check.specs.Blocks.{blocks, item_blocks, part_blocks}
use Rattle.nb_check.specs.Breaches.{twice}
use Rattle.nb_check.specs.Declarations.{type_text, names_of, messages}
use Rattle.nb_check.specs.Rules.{script_faults, items_faults, item_faults, declared_faults, parts_faults, part_faults, block_faults, saga_sight, sight, by_faults, placed_messages, placed_sagas, placed_parts, placed_timeouts}
use Rattle.nb_check.specs.Sends.{phrase_sends, phrases_sends, braces_sends, otherwise_sends, blocks_sends, sends}
use Rattle.nb_check.specs.Statements.{fields_of, unless_known, missing_faults, make_faults, delay_faults, value_faults, phrase_faults, phrases_faults, braces_faults, otherwise_faults, after}
use Rattle.nb_check.specs.declared.breach.CheckKind.TheVariants.{MessageTwice, SagaTwice, PartTwice}
use Rattle.nb_check.specs.declared.sight.SagaSight.{SagaSight}
use Rattle.nb_check.specs.declared.sight.Sight.{Sight}
use Rattle.nb_check.specs.declared.types.Declared.{Declared}
use Rattle.nb_check.specs.declared.types.MessageType.{MessageType}
use Rattle.nb_check.proofs.SendLaws.{sends_behind}

-- ---- lists

pub first_empty : {A : Type 0} (xs ys : List A) → xs ++ ys ≡ [] → xs ≡ []
first_empty [] ys h = refl
first_empty (x ∷ xs) ys h = absurd cc

pub rest_empty : {A : Type 0} (xs ys : List A) → xs ++ ys ≡ [] → ys ≡ []
rest_empty [] ys h = h
rest_empty (x ∷ xs) ys h = absurd cc

all_both : {A : Type 0} (P : A → Type 0) (xs ys : List A) → AllByRecursion P xs → AllByRecursion P ys → AllByRecursion P (xs ++ ys)
all_both P [] ys h k = k
all_both P (x ∷ xs) ys h k = (h.0, all_both P xs ys h.1 k)

-- ---- messages

abbrev AllKnown : List MessageType → List (List ℕ) → Type 0
AllKnown ms sent = AllByRecursion (λ name. IsAmong name (names_of ms)) sent

found : (name : List ℕ) (ms : List MessageType) (ds : List Declared) → fields_of name ms ≡ Some ds → IsAmong name (names_of ms)
found name [] ds h = absurd cc
found name (m ∷ ms) ds h =
    (elim (bytes_eq m.name name) as (λ b. bytes_eq m.name name ≡ b → cond b (Some m.fields) (fields_of name ms) ≡ Some ds → IsAmong name (names_of (m ∷ ms))) [
      | true ↦ λ e k. (0, ap Some ((bytes_eq-Decides m.name name).0 e))
      | false ↦ λ e k. let rest = found name ms ds k in (suc rest.0, rest.1)
    ]) refl h

made_of : (name : List ℕ) (ms : List MessageType) (m : MakeTerm) (o : Option (List Declared)) → fields_of name ms ≡ o → missing_faults o m ≡ [] → IsAmong name (names_of ms)
made_of name ms m None e h = absurd cc
made_of name ms m (Some ds) e h = found name ms ds e

made : (ms : List MessageType) (m : MakeTerm) (g : Sight) → make_faults ms m g ≡ [] → IsAmong (type_text m.name) (names_of ms)
made ms m g h = made_of (type_text m.name) ms m (fields_of (type_text m.name) ms) refl (first_empty (missing_faults (fields_of (type_text m.name) ms) m) _ h)

-- ---- statements

mutual
  phrase_sent : (ms : List MessageType) (d : Phrase) (g : Sight) → phrase_faults ms d g ≡ [] → AllKnown ms (phrase_sends d)
  phrase_sent ms (Let at q n u x c) g h = tt
  phrase_sent ms (Set at q n u x c) g h = tt
  phrase_sent ms (Put at r u x c) g h = tt
  phrase_sent ms (Add at r u x c) g h = tt
  phrase_sent ms (Erase at r c) g h = tt
  phrase_sent ms (Send a at Route m c) g h = (made ms m g (rest_empty (delay_faults a g) (make_faults ms m g) h), tt)
  phrase_sent ms (Send a at Local m c) g h = tt
  phrase_sent ms (Publish at m c) g h = tt
  phrase_sent ms (Reply at o m c) g h = tt
  phrase_sent ms (Timeout at x m c) g h = tt
  phrase_sent ms (Complete at c) g h = tt
  phrase_sent ms (Refuse at r q n x c) g h = tt
  phrase_sent ms (If at x b o) g h =
      let inner : braces_faults ms b g ++ otherwise_faults ms o g ≡ [] = rest_empty (value_faults Truth x g) _ h in
      all_both (λ name. IsAmong name (names_of ms)) (braces_sends b) (otherwise_sends o)
      (braces_sent ms b g (first_empty (braces_faults ms b g) (otherwise_faults ms o g) inner)) (otherwise_sent ms o g (rest_empty (braces_faults ms b g) (otherwise_faults ms o g) inner))

  phrases_sent : (ms : List MessageType) (ds : Phrases) (g : Sight) → phrases_faults ms ds g ≡ [] → AllKnown ms (phrases_sends ds)
  phrases_sent ms Nil g h = tt
  phrases_sent ms (Then d more) g h =
      all_both (λ name. IsAmong name (names_of ms)) (phrase_sends d) (phrases_sends more)
      (phrase_sent ms d g (first_empty (phrase_faults ms d g) (phrases_faults ms more (after d g)) h)) (phrases_sent ms more (after d g) (rest_empty (phrase_faults ms d g) (phrases_faults ms more (after d g)) h))

  braces_sent : (ms : List MessageType) (b : Braces) (g : Sight) → braces_faults ms b g ≡ [] → AllKnown ms (braces_sends b)
  braces_sent ms (Brace o body c) g h = phrases_sent ms body g h

  otherwise_sent : (ms : List MessageType) (o : Otherwise) (g : Sight) → otherwise_faults ms o g ≡ [] → AllKnown ms (otherwise_sends o)
  otherwise_sent ms Nothing g h = tt
  otherwise_sent ms (Last at b) g h = braces_sent ms b g h
  otherwise_sent ms (Chain at q x b o) g h =
      let inner : braces_faults ms b g ++ otherwise_faults ms o g ≡ [] = rest_empty (value_faults Truth x g) _ h in
      all_both (λ name. IsAmong name (names_of ms)) (braces_sends b) (otherwise_sends o)
      (braces_sent ms b g (first_empty (braces_faults ms b g) (otherwise_faults ms o g) inner)) (otherwise_sent ms o g (rest_empty (braces_faults ms b g) (otherwise_faults ms o g) inner))

-- ---- blocks and items

block_sent : (ms : List MessageType) (n : TypeName) (s : Option SagaSight) (b : Braces) → block_faults ms n s b ≡ [] → AllKnown ms (braces_sends b)
block_sent ms n s b h = braces_sent ms b (sight (fields_of (type_text n) ms) s) (rest_empty (unless_known (fields_of (type_text n) ms) n.at) _ h)

parts_sent : (ms : List MessageType) (name : List ℕ) (s : SagaSight) (k : FieldKind) (ps : List PartTerm) → parts_faults ms s k ps ≡ [] → AllKnown ms (blocks_sends (part_blocks name ps))
parts_sent ms name s k [] h = tt
parts_sent ms name s k (ByField at f n q u field b ∷ ps) h =
    let here : part_faults ms s k (ByField at f n q u field b) ≡ [] = first_empty (part_faults ms s k (ByField at f n q u field b)) (parts_faults ms s k ps) h in
    all_both (λ x. IsAmong x (names_of ms)) (braces_sends b) (blocks_sends (part_blocks name ps))
    (block_sent ms n (Some s) b (rest_empty (by_faults (fields_of (type_text n) ms) field u k) _ here)) (parts_sent ms name s k ps (rest_empty (part_faults ms s k (ByField at f n q u field b)) (parts_faults ms s k ps) h))
parts_sent ms name s k (ById at a n b ∷ ps) h =
    let here : part_faults ms s k (ById at a n b) ≡ [] = first_empty (part_faults ms s k (ById at a n b)) (parts_faults ms s k ps) h in
    all_both (λ x. IsAmong x (names_of ms)) (braces_sends b) (blocks_sends (part_blocks name ps))
    (block_sent ms n (Some s) b here) (parts_sent ms name s k ps (rest_empty (part_faults ms s k (ById at a n b)) (parts_faults ms s k ps) h))

item_sent : (ms : List MessageType) (i : ItemTerm) → item_faults ms i ≡ [] → AllKnown ms (blocks_sends (item_blocks i))
item_sent ms (Message at n o fs c) h = tt
item_sent ms (Handler at n b) h = all_both (λ x. IsAmong x (names_of ms)) (braces_sends b) [] (block_sent ms n None b h) tt
item_sent ms (Saga s) h =
    parts_sent ms s.name (saga_sight s) s.correlation.kind s.parts
    (rest_empty (twice PartTwice (placed_timeouts s.parts)) _ (rest_empty (twice PartTwice (placed_parts s.parts)) _ (rest_empty (declared_faults s) _ h)))

items_sent : (ms : List MessageType) (is : List ItemTerm) → items_faults ms is ≡ [] → AllKnown ms (blocks_sends (blocks is))
items_sent ms [] h = tt
items_sent ms (i ∷ is) h =
    subst (λ ns. AllByRecursion (λ x. IsAmong x (names_of ms)) ns) (sym (sends_behind (item_blocks i) (blocks is)))
    (all_both (λ x. IsAmong x (names_of ms)) (blocks_sends (item_blocks i)) (blocks_sends (blocks is))
    (item_sent ms i (first_empty (item_faults ms i) (items_faults ms is) h)) (items_sent ms is (rest_empty (item_faults ms i) (items_faults ms is) h)))

pub sent_declared : (items : List ItemTerm) → script_faults items ≡ [] → AllByRecursion (λ x. IsAmong x (names_of (messages items))) (sends items)
sent_declared items h =
    items_sent (messages items) items (rest_empty (twice SagaTwice (placed_sagas items)) _ (rest_empty (twice MessageTwice (placed_messages items)) _ h))
