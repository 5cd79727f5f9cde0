-- What is read of items is explained by them.
use Rattle.std.proofs.Common.{◌≡◌, ℕ, Some, None, Bool, true, false, List, [], ◌∷◌, ◌++◌, refl, ap, sym, ◌∙◌, append_assoc, codes}
use Rattle.std.proofs.lemmas.List.{append-nil}
use Rattle.nb_script.specs.declared.lexeme.Keyword.TheVariants as k
use Rattle.nb_script.specs.declared.lexeme.Symbol.TheVariants as sym'
use Rattle.nb_script.specs.declared.lexeme.Seen.{Seen}
use Rattle.nb_script.specs.declared.lexeme.Seen.TheVariants as see
use Rattle.nb_script.specs.declared.expr.TypeName.{TypeName}
use Rattle.nb_script.specs.declared.item.FieldKind.{FieldKind}
use Rattle.nb_script.specs.declared.item.FieldKind.TheVariants as kind
use Rattle.nb_script.specs.declared.item.Literal.TheVariants as literal
use Rattle.nb_script.specs.declared.item.Finder.{Finder}
use Rattle.nb_script.specs.declared.item.Finder.TheVariants as finder
use Rattle.nb_script.specs.declared.item.Answer.{Answer}
use Rattle.nb_script.specs.declared.item.Answer.TheVariants as answer
use Rattle.nb_script.specs.Words.{keyword_of}
use Rattle.nb_script.specs.Grammar.{Nil, Brace}
use Rattle.nb_script.specs.Grammar.{PartTerm, ByField, ById, ItemTerm, Message, Handler, Saga}
use Rattle.nb_script.specs.Spelling as spell
use Rattle.nb_script.specs.Spelling.{Mark, each, Every, Strung, Always, is_zero, one_less, IsName, IsWithin, IsDotted, IsTypeName, IsArg, IsMake, IsRowName, IsDelay, IsStatement, AreStatements, IsBlock, IsAlternative, IsPart, IsSaga, IsItem, arg_goes_on, message_field_goes_on, saga_field_goes_on, destination_key, refusal_key, kind_key, truth_key, finder_key, answer_key}
use Rattle.nb_script.specs.Reading.{always, closes, seen}
use Rattle.nb_script.specs.ReadingScript as read
use Rattle.nb_script.specs.ReadingScript.{in_row, Branch, Inside}
use Rattle.nb_script.proofs.Laws.{Sound, Extends, ret_sound, stop_sound, look_sound, bind_sound, many_sound}
use Rattle.nb_script.proofs.OneToken.{symbol_sound, this_sound, key_sound, word_sound, name_sound, number_sound, quoted_sound}
use Rattle.nb_script.proofs.SoundScript.{strung_every, type_name_sound, comma_sound, InsideSound, block_sound, inside_sound}

abbrev kind_marks : ℕ × FieldKind → List Mark
kind_marks x = spell.key (kind_key x.1) x.0 ∷ []

no_type : TypeName
no_type = record { at = 0; name = []; others = [] }

typed : IsTypeName no_type
unfolding no_type keyword_of
typed = (refl, tt)

-- ---- rows of tokens put together

four : (a xs : List Mark) (b : Mark) (ys cs : List Mark) → (((a ++ xs) ++ b ∷ []) ++ ys) ++ cs ≡ a ++ (xs ++ b ∷ (ys ++ cs))
four a xs b ys cs = append_assoc ((a ++ xs) ++ b ∷ []) ys cs ∙ append_assoc (a ++ xs) (b ∷ []) (ys ++ cs) ∙ append_assoc a xs (b ∷ (ys ++ cs))

fifth : (a xs : List Mark) (b d : Mark) (ys : List Mark) → (((a ++ xs) ++ b ∷ []) ++ d ∷ []) ++ ys ≡ a ++ (xs ++ b ∷ d ∷ ys)
fifth a xs b d ys = append_assoc ((a ++ xs) ++ b ∷ []) (d ∷ []) ys ∙ append_assoc (a ++ xs) (b ∷ []) (d ∷ ys) ∙ append_assoc a xs (b ∷ d ∷ ys)

eighth : (a r : List Mark) (q : Mark) (f : List Mark) (o y x : Mark) → (((((a ++ r) ++ q ∷ []) ++ f) ++ o ∷ []) ++ y ∷ []) ++ x ∷ [] ≡ a ++ (r ++ q ∷ (f ++ o ∷ y ∷ x ∷ []))
eighth a r q f o y x =
    append_assoc (((((a ++ r) ++ q ∷ []) ++ f) ++ o ∷ [])) (y ∷ []) (x ∷ []) ∙ append_assoc ((((a ++ r) ++ q ∷ []) ++ f)) (o ∷ []) (y ∷ x ∷ []) ∙ append_assoc ((a ++ r) ++ q ∷ []) f (o ∷ y ∷ x ∷ [])
    ∙ append_assoc (a ++ r) (q ∷ []) (f ++ o ∷ y ∷ x ∷ []) ∙ append_assoc a r (q ∷ (f ++ o ∷ y ∷ x ∷ []))

-- a saga up to the fields' opening brace, and then
abbrev head_before : read.Head → List Mark → List Mark
head_before h more = spell.key k.Saga h.at ∷ spell.word h.name.1 h.name.0 ∷ (spell.revision h.revision ++ spell.key k.On h.on_at ∷ (spell.field h.correlation ++ spell.symbol sym'.OpenBrace h.open_at ∷ spell.key k.Fields h.fields_at ∷ spell.symbol sym'.OpenBrace h.fields_open_at ∷ more))

abbrev head_marks : read.Head → List Mark
head_marks h = head_before h []

head_more : (h : read.Head) (xs : List Mark) → head_before h xs ≡ head_marks h ++ xs
head_more h xs = ap (λ ys. spell.key k.Saga h.at ∷ spell.word h.name.1 h.name.0 ∷ ys)
    (ap (λ ys. spell.revision h.revision ++ spell.key k.On h.on_at ∷ ys) (sym (append_assoc (spell.field h.correlation) (spell.symbol sym'.OpenBrace h.open_at ∷ spell.key k.Fields h.fields_at ∷ spell.symbol sym'.OpenBrace h.fields_open_at ∷ []) xs)) ∙ sym (append_assoc (spell.revision h.revision) (spell.key k.On h.on_at ∷ (spell.field h.correlation ++ spell.symbol sym'.OpenBrace h.open_at ∷ spell.key k.Fields h.fields_at ∷ spell.symbol sym'.OpenBrace h.fields_open_at ∷ [])) xs))

saga_parts : (h : read.Head) (fs : List Mark) (y : Mark) (ps : List Mark) (q : Mark) → head_before h (fs ++ y ∷ (ps ++ q ∷ [])) ≡ (((head_marks h ++ fs) ++ y ∷ []) ++ ps) ++ q ∷ []
saga_parts h fs y ps q = head_more h (fs ++ y ∷ (ps ++ q ∷ [])) ∙ sym (four (head_marks h) fs y ps (q ∷ []))

-- ---- fields

kind_is_sound : (x : FieldKind) → Sound kind_marks Always [] (read.kind_is x)
kind_is_sound x = bind_sound (key_sound (kind_key x)) (λ p t. ret_sound (p, x) tt refl)

no_kind : Extends kind_marks Always []
no_kind = record { whole = (0, kind.Int); more = kind_marks (0, kind.Int); fits = tt; spelled = refl }

kind_by_sound : (s : Seen) → Sound kind_marks Always [] (read.kind_by s)
kind_by_sound (see.Key k.Int) = kind_is_sound kind.Int
kind_by_sound (see.Key k.Text) = kind_is_sound kind.Text
kind_by_sound (see.Key k.Bool) = kind_is_sound kind.Bool
kind_by_sound _ = stop_sound no_kind

kind_sound : Sound kind_marks Always [] read.field_kind
unfolding read.field_kind
kind_sound = look_sound (λ o. kind_by_sound (seen o))

field_sound : Sound spell.field Always [] read.field
unfolding read.field
field_sound =
    bind_sound word_sound (λ n t. bind_sound (symbol_sound sym'.Colon) (λ q u. bind_sound kind_sound (λ x v.
    ret_sound (record { at = n.0; name = n.1; colon_at = q; kind_at = x.0; kind = x.1 }) tt refl)))

message_field_sound : Sound spell.message_field Always [] read.message_field
unfolding read.message_field
message_field_sound = bind_sound field_sound (λ f t. bind_sound comma_sound (λ q u. ret_sound (record { field = f; comma_at = q }) tt refl))

-- ---- literals

negative_sound : Sound spell.literal_spelling Always [] read.negative_literal
unfolding read.negative_literal
negative_sound = bind_sound (symbol_sound sym'.Minus) (λ m t. bind_sound number_sound (λ n u. ret_sound (literal.Number (Some m) n.0 n.1) tt refl))

truth_sound : (b : Bool) → Sound spell.literal_spelling Always [] (read.truth_literal b)
truth_sound b = bind_sound (key_sound (truth_key b)) (λ p t. ret_sound (literal.Truth p b) tt refl)

no_literal : Extends spell.literal_spelling Always []
no_literal = record { whole = literal.Truth 0 true; more = spell.literal_spelling (literal.Truth 0 true); fits = tt; spelled = refl }

literal_by_sound : (s : Seen) → Sound spell.literal_spelling Always [] (read.literal_by s)
literal_by_sound (see.Symbol sym'.Minus) = negative_sound
literal_by_sound see.Number = bind_sound number_sound (λ n t. ret_sound (literal.Number None n.0 n.1) tt refl)
literal_by_sound see.Quoted = bind_sound quoted_sound (λ x t. ret_sound (literal.Quoted x.0 x.1) tt refl)
literal_by_sound (see.Key k.True) = truth_sound true
literal_by_sound (see.Key k.False) = truth_sound false
literal_by_sound _ = stop_sound no_literal

literal_sound : Sound spell.literal_spelling Always [] read.literal_value
unfolding read.literal_value
literal_sound = look_sound (λ o. literal_by_sound (seen o))

since_by_sound : (b : Bool) → Sound spell.since Always [] (read.since_by b)
since_by_sound true =
    bind_sound (this_sound (codes "since")) (λ p t. bind_sound number_sound (λ n u. bind_sound (symbol_sound sym'.Assign) (λ q v. bind_sound literal_sound (λ x w.
    ret_sound (Some (record { at = p; number_at = n.0; revision = n.1; equals_at = q; literal = x })) tt refl))))
since_by_sound false = ret_sound None tt refl

since_sound : Sound spell.since Always [] read.since
unfolding read.since
since_sound = look_sound (λ o. since_by_sound (read.is_next (codes "since") o))

saga_field_sound : Sound spell.saga_field Always [] read.saga_field
unfolding read.saga_field
saga_field_sound =
    bind_sound field_sound (λ f t. bind_sound since_sound (λ s u. bind_sound comma_sound (λ q v.
    ret_sound (record { field = f; since = s; comma_at = q }) tt (sym (append_assoc (spell.field f) (spell.since s) (spell.comma q))))))

revision_by_sound : (b : Bool) → Sound spell.revision Always [] (read.revision_by b)
revision_by_sound true = bind_sound (this_sound (codes "revision")) (λ p t. bind_sound number_sound (λ n u. ret_sound (Some (record { at = p; number_at = n.0; number = n.1 })) tt refl))
revision_by_sound false = ret_sound None tt refl

revision_sound : Sound spell.revision Always [] read.revision
unfolding read.revision
revision_sound = look_sound (λ o. revision_by_sound (read.is_next (codes "revision") o))

-- ---- parts

by_field_sound : (lines room : ℕ) (i : Inside) → InsideSound (one_less room) i → (f : Finder) → Sound (spell.part room) IsPart [] (read.by_field lines room i f)
unfolding read.by_field
by_field_sound lines room i l f =
    bind_sound (key_sound (finder_key f)) (λ p t. bind_sound (type_name_sound lines) (λ n fn. bind_sound (key_sound k.By) (λ q u. bind_sound word_sound (λ x v. bind_sound (block_sound room i l) (λ b fb.
    ret_sound (ByField p f n q x.0 x.1 b) (fn, fb) (sym (fifth (spell.key (finder_key f) p ∷ []) (spell.type_name n) (spell.key k.By q) (spell.word x.1 x.0) (spell.block room b))))))))

by_id_sound : (lines room : ℕ) (i : Inside) → InsideSound (one_less room) i → (a : Answer) → Sound (spell.part room) IsPart [] (read.by_id lines room i a)
unfolding read.by_id
by_id_sound lines room i l a =
    bind_sound (key_sound (answer_key a)) (λ p t. bind_sound (type_name_sound lines) (λ n fn. bind_sound (block_sound room i l) (λ b fb.
    ret_sound (ById p a n b) (fn, fb) refl)))

no_part : (room : ℕ) → Extends (spell.part room) IsPart []
no_part room = let it : PartTerm = ById 0 answer.Reply no_type (Brace 0 Nil 0) in record { whole = it; more = spell.part room it; fits = (typed, tt); spelled = refl }

part_by_sound : (lines room : ℕ) (i : Inside) → InsideSound (one_less room) i → (s : Seen) → Sound (spell.part room) IsPart [] (read.part_by lines room i s)
part_by_sound lines room i l (see.Key k.Start) = by_field_sound lines room i l finder.Start
part_by_sound lines room i l (see.Key k.Find) = by_field_sound lines room i l finder.Find
part_by_sound lines room i l (see.Key k.Reply) = by_id_sound lines room i l answer.Reply
part_by_sound lines room i l (see.Key k.Timeout) = by_id_sound lines room i l answer.Timeout
part_by_sound lines room i l _ = stop_sound (no_part room)

part_sound : (lines room : ℕ) (i : Inside) → InsideSound (one_less room) i → Sound (spell.part room) IsPart [] (read.part lines room i)
unfolding read.part
part_sound lines room i l = look_sound (λ o. part_by_sound lines room i l (seen o))

-- ---- items

message_sound : (lines room : ℕ) → Sound (spell.item room) IsItem [] (read.message lines)
unfolding read.message
message_sound lines room =
    bind_sound (key_sound k.Message) (λ p t. bind_sound (type_name_sound lines) (λ n fn. bind_sound (symbol_sound sym'.OpenBrace) (λ o u. bind_sound (many_sound lines closes message_field_goes_on message_field_sound) (λ fs all. bind_sound (symbol_sound sym'.CloseBrace) (λ q v.
    ret_sound (Message p n o fs q) (fn, all) (sym (four (spell.key k.Message p ∷ []) (spell.type_name n) (spell.symbol sym'.OpenBrace o) (each spell.message_field fs) _)))))))

handler_sound : (lines room : ℕ) (i : Inside) → InsideSound (one_less room) i → Sound (spell.item room) IsItem [] (read.handler lines room i)
unfolding read.handler
handler_sound lines room i l = bind_sound (key_sound k.Handler) (λ p t. bind_sound (type_name_sound lines) (λ n fn. bind_sound (block_sound room i l) (λ b fb. ret_sound (Handler p n b) (fn, fb) refl)))

head_sound : Sound head_marks (λ h. IsName h.name.1) [] read.head
unfolding read.head
head_sound =
    bind_sound (key_sound k.Saga) (λ p t. bind_sound name_sound (λ n free. bind_sound revision_sound (λ r u. bind_sound (key_sound k.On) (λ q v. bind_sound field_sound (λ f w.
    bind_sound (symbol_sound sym'.OpenBrace) (λ o w. bind_sound (key_sound k.Fields) (λ y w. bind_sound (symbol_sound sym'.OpenBrace) (λ x w.
    ret_sound (record { at = p; name = n; revision = r; on_at = q; correlation = f; open_at = o; fields_at = y; fields_open_at = x }) free
    (sym (eighth (spell.key k.Saga p ∷ spell.word n.1 n.0 ∷ []) (spell.revision r) (spell.key k.On q) (spell.field f) (spell.symbol sym'.OpenBrace o) (spell.key k.Fields y) (spell.symbol sym'.OpenBrace x)))))))))))

saga_sound : (lines room : ℕ) (i : Inside) → InsideSound (one_less room) i → Sound (spell.item room) IsItem [] (read.saga lines room i)
unfolding read.saga
saga_sound lines room i l =
    bind_sound head_sound (λ h free. bind_sound (many_sound lines closes saga_field_goes_on saga_field_sound) (λ fs all. bind_sound (symbol_sound sym'.CloseBrace) (λ y t. bind_sound (many_sound lines closes always (part_sound lines room i l)) (λ ps fits. bind_sound (symbol_sound sym'.CloseBrace) (λ q u.
    ret_sound (Saga (record { at = h.at; name_at = h.name.0; name = h.name.1; revision = h.revision; on_at = h.on_at; correlation = h.correlation; open_at = h.open_at; fields_at = h.fields_at; fields_open_at = h.fields_open_at; fields = fs; fields_close_at = y; parts = ps; close_at = q }))
    (record { name = free; fields = all; parts = strung_every IsPart ps fits })
    (saga_parts h (each spell.saga_field fs) (spell.symbol sym'.CloseBrace y) (each (spell.part room) ps) (spell.symbol sym'.CloseBrace q)))))))

no_item : (room : ℕ) → Extends (spell.item room) IsItem []
no_item room = let it : ItemTerm = Handler 0 no_type (Brace 0 Nil 0) in record { whole = it; more = spell.item room it; fits = (typed, tt); spelled = refl }

item_by_sound : (lines room : ℕ) (i : Inside) → InsideSound (one_less room) i → (s : Seen) → Sound (spell.item room) IsItem [] (read.item_by lines room i s)
item_by_sound lines room i l (see.Key k.Message) = message_sound lines room
item_by_sound lines room i l (see.Key k.Handler) = handler_sound lines room i l
item_by_sound lines room i l (see.Key k.Saga) = saga_sound lines room i l
item_by_sound lines room i l _ = stop_sound (no_item room)

item_sound : (lines room : ℕ) (i : Inside) → InsideSound (one_less room) i → Sound (spell.item room) IsItem [] (read.item lines room i)
unfolding read.item
item_sound lines room i l = look_sound (λ o. item_by_sound lines room i l (seen o))

-- ---- scripts

finished_sound : (room : ℕ) (xs : List ItemTerm) → Strung always IsItem xs → (b : Bool) → Sound (each (spell.item room)) (Strung always IsItem) (each (spell.item room) xs) (read.finished xs b)
finished_sound room xs all true = ret_sound xs all refl
finished_sound room xs all false = stop_sound (record { whole = xs; more = []; fits = all; spelled = sym (append-nil (each (spell.item room) xs)) })

pub whole_sound : (lines room : ℕ) → Sound (each (spell.item room)) (Strung always IsItem) [] (read.whole lines room)
unfolding read.whole
whole_sound lines room = bind_sound (many_sound lines read.is_end always (item_sound lines room (read.inside lines room) (inside_sound lines room))) (λ xs all. look_sound (λ o. finished_sound room xs all (read.is_end o)))
