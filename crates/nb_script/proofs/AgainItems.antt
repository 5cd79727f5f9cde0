-- Items with the places that their printed tokens have.
use Rattle.std.proofs.Common.{◌≡◌, ℕ, zero, suc, false, List, [], ◌∷◌, ◌++◌, map, Option, Some, None, option_map, slice_get, refl, ap, sym, subst, ◌∙◌, append_assoc}
use Rattle.nb_script.specs.declared.lexeme.Keyword.TheVariants as k'
use Rattle.nb_script.specs.declared.lexeme.Symbol.TheVariants as sym'
use Rattle.nb_script.specs.declared.lexeme.Content.{Content}
use Rattle.nb_script.specs.declared.lexeme.Content.TheVariants as c
use Rattle.nb_script.specs.declared.lexeme.Lexeme.{Lexeme}
use Rattle.nb_script.specs.declared.item.Revision.{Revision}
use Rattle.nb_script.specs.declared.item.SagaField.{SagaField}
use Rattle.nb_script.specs.declared.expr.TypeName.{TypeName}
use Rattle.nb_script.specs.Grammar.{PartTerm, ByField, ById, SagaTerm, ItemTerm, Message, Handler, Saga}
use Rattle.nb_script.specs.Spelling.{Mark, lexeme, lexemes, each, Every, IsTypeName, IsBlock, Strung, Always, message_field_goes_on, saga_field_goes_on, IsPart, IsSaga, IsItem, finder_key, answer_key}
use Rattle.nb_script.specs.Spelling as spelled
use Rattle.nb_script.specs.Printing.{key, listed, all_of}
use Rattle.nb_script.specs.Printing as printed
use Rattle.nb_script.specs.Bare as bare
use Rattle.nb_script.specs.Answer.{Spells}
use Rattle.nb_script.specs.Respelling.{placed, IsRespelled}
use Rattle.nb_script.proofs.LexBack.{IsPrintable}
use Rattle.nb_script.proofs.Again.{past, Shown, shown_more, shown_join, IsKept, Kept, kept_join, kept_front, kept_back}
use Rattle.nb_script.proofs.AgainParts.{Redone, type_again, type_redone, strung_again, strung_redone, field_again, put_message_field, spell_message_field, message_field_put, put_saga_field, spell_saga_field, saga_field_put}
use Rattle.nb_script.proofs.AgainStatements.{braces_again, braces_redone}

abbrev after_type : ℕ → TypeName → ℕ
after_type k t = past k (printed.type_name t)

-- ---- parts

abbrev pub part_again : (ℕ → ℕ) → ℕ → PartTerm → PartTerm
part_again f k (ByField p w t q u x b) = ByField (f k) w (type_again f (suc k) t) (f (after_type (suc k) t)) (f (suc (after_type (suc k) t))) x (braces_again f (suc (suc (after_type (suc k) t))) b)
part_again f k (ById p w t b) = ById (f k) w (type_again f (suc k) t) (braces_again f (after_type (suc k) t) b)

part_redone : (f : ℕ → ℕ) (k : ℕ) (x : PartTerm) → IsPart x → Redone f k spelled.part (printed.part x) IsPart bare.part x (part_again f k x)
part_redone f k (ByField p w t q u x b) it =
    let name = type_redone f (suc k) t it.0 in
    let here = after_type (suc k) t in
    let body = braces_redone f (suc (suc here)) b it.1 in
    record {
      shown = λ room. shown_more f k (key (finder_key w)) (shown_join f (suc k) (spelled.type_name (type_again f (suc k) t)) (spelled.key k'.By (f here) ∷ spelled.word x (f (suc here)) ∷ spelled.block room (braces_again f (suc (suc here)) b))
          (printed.type_name t) (key k'.By ∷ c.Word x ∷ printed.block b) (name.shown room) (shown_more f here (key k'.By) (shown_more f (suc here) (c.Word x) (body.shown room))));
      fits = (name.fits, body.fits);
      same = ap (λ t. ByField 0 w t 0 0 x (bare.braces (braces_again f (suc (suc here)) b))) name.same ∙ ap (λ s. ByField 0 w (bare.type_name t) 0 0 x s) body.same;
      kept = λ room all. (all.0, kept_join (spelled.type_name (type_again f (suc k) t)) _ (name.kept room (kept_front (spelled.type_name t) _ all.1)) ((kept_back (spelled.type_name t) _ all.1).0, ((kept_back (spelled.type_name t) _ all.1).1.0, body.kept room (kept_back (spelled.type_name t) _ all.1).1.1)));
    }
part_redone f k (ById p w t b) it =
    let name = type_redone f (suc k) t it.0 in
    let here = after_type (suc k) t in
    let body = braces_redone f here b it.1 in
    record {
      shown = λ room. shown_more f k (key (answer_key w)) (shown_join f (suc k) (spelled.type_name (type_again f (suc k) t)) (spelled.block room (braces_again f here b)) (printed.type_name t) (printed.block b) (name.shown room) (body.shown room));
      fits = (name.fits, body.fits);
      same = ap (λ t. ById 0 w t (bare.braces (braces_again f here b))) name.same ∙ ap (λ s. ById 0 w (bare.type_name t) s) body.same;
      kept = λ room all. (all.0, kept_join (spelled.type_name (type_again f (suc k) t)) _ (name.kept room (kept_front (spelled.type_name t) _ all.1)) (body.kept room (kept_back (spelled.type_name t) _ all.1)));
    }

-- ---- rows of parts and of items

abbrev pub row_again : {X : Type 0} → (X → List Content) → (ℕ → X → X) → ℕ → List X → List X
row_again print put k [] = []
row_again print put k (x ∷ xs) = put k x ∷ row_again print put (past k (print x)) xs

row_redone : {X : Type 0} (f : ℕ → ℕ) (spell : ℕ → X → List Mark) (print : X → List Content) (Is : X → Type 0) (strip : X → X) (put : ℕ → X → X) → ((k : ℕ) (x : X) → Is x → Redone f k spell (print x) Is strip x (put k x)) → (k : ℕ) (xs : List X) → Every Is xs
    → Redone f k (λ room. each (spell room)) (all_of print xs) (Every Is) (map strip) xs (row_again print put k xs)
row_redone f spell print Is strip put one k [] it = record { shown = λ room. refl; fits = tt; same = refl; kept = λ room all. tt }
row_redone f spell print Is strip put one k (x ∷ xs) it =
    let first = one k x it.0 in
    let others = row_redone f spell print Is strip put one (past k (print x)) xs it.1 in
    record {
      shown = λ room. shown_join f k (spell room (put k x)) (each (spell room) (row_again print put (past k (print x)) xs)) (print x) (all_of print xs) (first.shown room) (others.shown room);
      fits = (first.fits, others.fits);
      same = ap (λ y. y ∷ map strip (row_again print put (past k (print x)) xs)) first.same ∙ ap (λ ys. strip x ∷ ys) others.same;
      kept = λ room all. kept_join (spell room (put k x)) _ (first.kept room (kept_front (spell room x) (each (spell room) xs) all)) (others.kept room (kept_back (spell room x) (each (spell room) xs) all));
    }

-- ---- sagas

abbrev revision_again : (ℕ → ℕ) → ℕ → Option Revision → Option Revision
revision_again f k None = None
revision_again f k (Some r) = Some (record { at = f k; number_at = f (suc k); number = r.number })

revision_shown : (f : ℕ → ℕ) (k : ℕ) (r : Option Revision) → Shown f k (spelled.revision (revision_again f k r)) (printed.revision r)
revision_shown f k None = refl
revision_shown f k (Some r) = refl

revision_same : (f : ℕ → ℕ) (k : ℕ) (r : Option Revision) → option_map bare.revision (revision_again f k r) ≡ option_map bare.revision r
revision_same f k None = refl
revision_same f k (Some r) = refl

revision_kept : (f : ℕ → ℕ) (k : ℕ) (r : Option Revision) → Kept (spelled.revision r) → Kept (spelled.revision (revision_again f k r))
revision_kept f k None all = tt
revision_kept f k (Some r) all = all

-- the numbers of the word 'on', of the brace behind the head, of the first field and of the first part
abbrev on_number : ℕ → SagaTerm → ℕ
on_number k s = past (suc (suc k)) (printed.revision s.revision)

abbrev open_number : ℕ → SagaTerm → ℕ
open_number k s = suc (suc (suc (suc (on_number k s))))

abbrev fields_number : ℕ → SagaTerm → ℕ
fields_number k s = suc (suc (suc (open_number k s)))

abbrev parts_number : ℕ → SagaTerm → ℕ
parts_number k s = suc (past (fields_number k s) (listed printed.saga_field s.fields))

abbrev pub saga_again : (ℕ → ℕ) → ℕ → SagaTerm → SagaTerm
saga_again f k s = record {
  at = f k;
  name_at = f (suc k);
  name = s.name;
  revision = revision_again f (suc (suc k)) s.revision;
  on_at = f (on_number k s);
  correlation = field_again f (suc (on_number k s)) s.correlation;
  open_at = f (open_number k s);
  fields_at = f (suc (open_number k s));
  fields_open_at = f (suc (suc (open_number k s)));
  fields = strung_again (put_saga_field f) printed.saga_field f (fields_number k s) s.fields;
  fields_close_at = f (past (fields_number k s) (listed printed.saga_field s.fields));
  parts = row_again printed.part (part_again f) (parts_number k s) s.parts;
  close_at = f (past (parts_number k s) (all_of printed.part s.parts));
}

abbrev fields_again : (ℕ → ℕ) → ℕ → SagaTerm → List SagaField
fields_again f k s = strung_again (put_saga_field f) printed.saga_field f (fields_number k s) s.fields

fields_redone : (f : ℕ → ℕ) (k : ℕ) (s : SagaTerm) → IsSaga s → Redone f (fields_number k s) (λ room. each (spell_saga_field room)) (listed printed.saga_field s.fields) (Strung saga_field_goes_on Always) (map bare.saga_field) s.fields (fields_again f k s)
fields_redone f k s it = strung_redone f spell_saga_field printed.saga_field saga_field_goes_on Always bare.saga_field (put_saga_field f) (saga_field_put f) (fields_number k s) s.fields it.fields

abbrev parts_again : (ℕ → ℕ) → ℕ → SagaTerm → List PartTerm
parts_again f k s = row_again printed.part (part_again f) (parts_number k s) s.parts

parts_redone : (f : ℕ → ℕ) (k : ℕ) (s : SagaTerm) → IsSaga s → Redone f (parts_number k s) (λ room. each (spelled.part room)) (all_of printed.part s.parts) (Every IsPart) (map bare.part) s.parts (parts_again f k s)
parts_redone f k s it = row_redone f spelled.part printed.part IsPart bare.part (part_again f) (part_redone f) (parts_number k s) s.parts it.parts

-- a saga from its brace on
abbrev body : (room : ℕ) → SagaTerm → List Mark
body room s = spelled.symbol sym'.OpenBrace s.open_at ∷ spelled.key k'.Fields s.fields_at ∷ spelled.symbol sym'.OpenBrace s.fields_open_at ∷ (each spelled.saga_field s.fields
    ++ spelled.symbol sym'.CloseBrace s.fields_close_at ∷ (each (spelled.part room) s.parts ++ spelled.symbol sym'.CloseBrace s.close_at ∷ []))

body_shown : (f : ℕ → ℕ) (k : ℕ) (s : SagaTerm) (room : ℕ) → IsSaga s → Shown f (open_number k s) (body room (saga_again f k s)) (printed.saga_body s)
body_shown f k s room it =
    shown_more f (open_number k s) (c.Symbol sym'.OpenBrace) (shown_more f (suc (open_number k s)) (key k'.Fields) (shown_more f (suc (suc (open_number k s))) (c.Symbol sym'.OpenBrace)
    (shown_join f (fields_number k s) (each spelled.saga_field (fields_again f k s)) (spelled.symbol sym'.CloseBrace (f (past (fields_number k s) (listed printed.saga_field s.fields))) ∷ (each (spelled.part room) (parts_again f k s) ++ spelled.symbol sym'.CloseBrace (f (past (parts_number k s) (all_of printed.part s.parts))) ∷ []))
    (listed printed.saga_field s.fields) (c.Symbol sym'.CloseBrace ∷ (all_of printed.part s.parts ++ c.Symbol sym'.CloseBrace ∷ [])) ((fields_redone f k s it).shown room)
    (shown_more f (past (fields_number k s) (listed printed.saga_field s.fields)) (c.Symbol sym'.CloseBrace) (shown_join f (parts_number k s) (each (spelled.part room) (parts_again f k s)) (spelled.symbol sym'.CloseBrace (f (past (parts_number k s) (all_of printed.part s.parts))) ∷ [])
    (all_of printed.part s.parts) (c.Symbol sym'.CloseBrace ∷ []) ((parts_redone f k s it).shown room) refl)))))

body_kept : (f : ℕ → ℕ) (k : ℕ) (s : SagaTerm) (room : ℕ) → IsSaga s → Kept (body room s) → Kept (body room (saga_again f k s))
body_kept f k s room it all =
    let back = kept_back (each spelled.saga_field s.fields) (spelled.symbol sym'.CloseBrace s.fields_close_at ∷ (each (spelled.part room) s.parts ++ spelled.symbol sym'.CloseBrace s.close_at ∷ [])) all.1.1.1 in (
      all.0,
      (
        all.1.0,
        (
          all.1.1.0,
          kept_join (each spelled.saga_field (fields_again f k s)) _ ((fields_redone f k s it).kept room (kept_front (each spelled.saga_field s.fields) _ all.1.1.1))
              ((refl, tt), kept_join (each (spelled.part room) (parts_again f k s)) _ ((parts_redone f k s it).kept room (kept_front (each (spelled.part room) s.parts) _ back.1)) ((refl, tt), tt)),
        ),
      ),
    )

-- a saga from the word 'on' on
abbrev tail_of : (room : ℕ) → SagaTerm → List Mark
tail_of room s = spelled.key k'.On s.on_at ∷ (spelled.field s.correlation ++ body room s)

saga_shown : (f : ℕ → ℕ) (k : ℕ) (s : SagaTerm) (room : ℕ) → IsSaga s → Shown f k (spelled.saga room (saga_again f k s)) (printed.saga s)
saga_shown f k s room it =
    shown_more f k (key k'.Saga) (shown_more f (suc k) (c.Word s.name) (shown_join f (suc (suc k)) (spelled.revision (revision_again f (suc (suc k)) s.revision)) (tail_of room (saga_again f k s)) (printed.revision s.revision) (key k'.On ∷ (printed.field s.correlation ++ printed.saga_body s)) (revision_shown f (suc (suc k)) s.revision)
    (shown_more f (on_number k s) (key k'.On) (shown_join f (suc (on_number k s)) (spelled.field (field_again f (suc (on_number k s)) s.correlation)) (body room (saga_again f k s)) (printed.field s.correlation) (printed.saga_body s) refl (body_shown f k s room it)))
    ∙ ap (placed f (suc (suc k))) (sym (append_assoc (printed.revision s.revision) (key k'.On ∷ printed.field s.correlation) (printed.saga_body s)))))

saga_same : (f : ℕ → ℕ) (k : ℕ) (s : SagaTerm) → IsSaga s → bare.saga (saga_again f k s) ≡ bare.saga s
saga_same f k s it =
    ap (λ r. record (bare.saga (saga_again f k s)) { revision = r }) (revision_same f (suc (suc k)) s.revision)
    ∙ ap (λ xs. record (bare.saga (saga_again f k s)) { revision = option_map bare.revision s.revision; fields = xs }) (fields_redone f k s it).same
    ∙ ap (λ xs. record (bare.saga s) { parts = xs }) (parts_redone f k s it).same

saga_kept : (f : ℕ → ℕ) (k : ℕ) (s : SagaTerm) (room : ℕ) → IsSaga s → Kept (spelled.saga room s) → Kept (spelled.saga room (saga_again f k s))
saga_kept f k s room it all =
    let back = kept_back (spelled.revision s.revision) (tail_of room s) all.1.1 in (
      all.0,
      (
        all.1.0,
        kept_join (spelled.revision (revision_again f (suc (suc k)) s.revision)) (tail_of room (saga_again f k s)) (revision_kept f (suc (suc k)) s.revision (kept_front (spelled.revision s.revision) (tail_of room s) all.1.1))
            (back.0, (back.1.0, (back.1.1.0, (back.1.1.1.0, body_kept f k s room it back.1.1.1.1)))),
      ),
    )

-- ---- items

abbrev pub item_again : (ℕ → ℕ) → ℕ → ItemTerm → ItemTerm
item_again f k (Message p t o fs q) = Message (f k) (type_again f (suc k) t) (f (after_type (suc k) t)) (strung_again (put_message_field f) printed.message_field f (suc (after_type (suc k) t)) fs) (f (past (suc (after_type (suc k) t)) (listed printed.message_field fs)))
item_again f k (Handler p t b) = Handler (f k) (type_again f (suc k) t) (braces_again f (after_type (suc k) t) b)
item_again f k (Saga s) = Saga (saga_again f k s)

item_redone : (f : ℕ → ℕ) (k : ℕ) (x : ItemTerm) → IsItem x → Redone f k spelled.item (printed.item x) IsItem bare.item x (item_again f k x)
item_redone f k (Message p t o fs q) it =
    let name = type_redone f (suc k) t it.0 in
    let here = after_type (suc k) t in
    let fields = strung_redone f spell_message_field printed.message_field message_field_goes_on Always bare.message_field (put_message_field f) (message_field_put f) (suc here) fs it.1 in
    record {
      shown = λ room. shown_more f k (key k'.Message) (shown_join f (suc k) (spelled.type_name (type_again f (suc k) t)) (spelled.symbol sym'.OpenBrace (f here) ∷ (each spelled.message_field (strung_again (put_message_field f) printed.message_field f (suc here) fs) ++ spelled.symbol sym'.CloseBrace (f (past (suc here) (listed printed.message_field fs))) ∷ []))
          (printed.type_name t) (c.Symbol sym'.OpenBrace ∷ (listed printed.message_field fs ++ c.Symbol sym'.CloseBrace ∷ [])) (name.shown room)
          (shown_more f here (c.Symbol sym'.OpenBrace) (shown_join f (suc here) (each spelled.message_field (strung_again (put_message_field f) printed.message_field f (suc here) fs)) (spelled.symbol sym'.CloseBrace (f (past (suc here) (listed printed.message_field fs))) ∷ []) (listed printed.message_field fs) (c.Symbol sym'.CloseBrace ∷ []) (fields.shown room) refl)));
      fits = (name.fits, fields.fits);
      same = ap (λ t. Message 0 t 0 (map bare.message_field (strung_again (put_message_field f) printed.message_field f (suc here) fs)) 0) name.same ∙ ap (λ xs. Message 0 (bare.type_name t) 0 xs 0) fields.same;
      kept = λ room all. (
          let back = kept_back (spelled.type_name t) (spelled.symbol sym'.OpenBrace o ∷ (each spelled.message_field fs ++ spelled.symbol sym'.CloseBrace q ∷ [])) all.1 in (
            all.0,
            kept_join (spelled.type_name (type_again f (suc k) t)) _ (name.kept room (kept_front (spelled.type_name t) _ all.1))
                ((refl, tt), kept_join (each spelled.message_field (strung_again (put_message_field f) printed.message_field f (suc here) fs)) _ (fields.kept room (kept_front (each spelled.message_field fs) _ back.1)) ((refl, tt), tt)),
          ));
    }
item_redone f k (Handler p t b) it =
    let name = type_redone f (suc k) t it.0 in
    let here = after_type (suc k) t in
    let body = braces_redone f here b it.1 in
    record {
      shown = λ room. shown_more f k (key k'.Handler) (shown_join f (suc k) (spelled.type_name (type_again f (suc k) t)) (spelled.block room (braces_again f here b)) (printed.type_name t) (printed.block b) (name.shown room) (body.shown room));
      fits = (name.fits, body.fits);
      same = ap (λ t. Handler 0 t (bare.braces (braces_again f here b))) name.same ∙ ap (λ s. Handler 0 (bare.type_name t) s) body.same;
      kept = λ room all. (all.0, kept_join (spelled.type_name (type_again f (suc k) t)) _ (name.kept room (kept_front (spelled.type_name t) _ all.1)) (body.kept room (kept_back (spelled.type_name t) _ all.1)));
    }
item_redone f k (Saga s) it = record {
  shown = λ room. saga_shown f k s room it;
  fits = record { name = it.name; fields = (fields_redone f k s it).fits; parts = (parts_redone f k s it).fits };
  same = ap Saga (saga_same f k s it);
  kept = λ room all. saga_kept f k s room it all;
}

-- ---- scripts

script_redone : (f : ℕ → ℕ) (items : List ItemTerm) → Every IsItem items → Redone f 0 (λ room. each (spelled.item room)) (all_of printed.item items) (Every IsItem) (map bare.item) items (row_again printed.item (item_again f) 0 items)
script_redone f items it = row_redone f spelled.item printed.item IsItem bare.item (item_again f) (item_redone f) 0 items it

-- what each token says can be printed
abbrev pub AllSay : List Mark → Type 0
AllSay ms = Every (λ m. IsPrintable m.lexeme.content) ms

all_kept : (ms : List Mark) → ((j : ℕ) (x : Mark) → slice_get ms j ≡ Some x → x.past ≡ false) → AllSay ms → Kept ms
all_kept [] it says = tt
all_kept (m ∷ ms) it says = ((it 0 m refl, says.0), all_kept ms (λ j x e. it (suc j) x e) says.1)

each_kept : (ms : List Mark) (j : ℕ) (x : Mark) → Kept ms → slice_get ms j ≡ Some x → x.past ≡ false
each_kept [] j x it e = cc
each_kept (m ∷ ms) zero x it e = (let both : Some m ≡ Some x = e in let same : m ≡ x = cc in (subst IsKept same it.0).0)
each_kept (m ∷ ms) (suc j) x it e = each_kept ms j x it.1 e

all_say : (f : ℕ → ℕ) (k : ℕ) (ms : List Mark) (xs : List Content) → Shown f k ms xs → Kept ms → Every IsPrintable xs
all_say f k [] [] shown it = tt
all_say f k [] (x ∷ xs) shown it = cc
all_say f k (m ∷ ms) [] shown it = cc
all_say f k (m ∷ ms) (x ∷ xs) shown it = (
    let whole : m.lexeme ∷ lexemes ms ≡ lexeme x (f k) ∷ placed f (suc k) xs = shown in
    let first : m.lexeme ≡ lexeme x (f k) = cc in
    let others : lexemes ms ≡ placed f (suc k) xs = cc in
    (subst (λ l. IsPrintable l.content) first it.0.1, all_say f (suc k) ms xs others it.1))

-- What is printed of a script is spelled by one that is the same but for places, and can be printed.
pub record IsReprinted (f : ℕ → ℕ) (items : List ItemTerm) : Type 0 where
  pub respelled : IsRespelled f items
  pub says : Every IsPrintable (all_of printed.item items)

pub respelled_of : (f : ℕ → ℕ) (ts : List Lexeme) (items : List ItemTerm) → Spells ts items → AllSay (each (spelled.item 100) items) → IsReprinted f items
respelled_of f ts items it say =
    let again = script_redone f items it.grammatical in
    let marks : List Mark = each (spelled.item 100) (row_again printed.item (item_again f) 0 items) in
    let kept : Kept marks = again.kept 100 (all_kept (each (spelled.item 100) items) it.keeps say) in
    record {
      respelled = record {
        again = row_again printed.item (item_again f) 0 items;
        spells = record { spelled = sym (again.shown 100); grammatical = again.fits; keeps = λ j x e. each_kept marks j x kept e };
        same = again.same;
      };
      says = all_say f 0 marks (all_of printed.item items) (again.shown 100) kept;
    }
