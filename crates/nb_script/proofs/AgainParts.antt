-- Types, fields and messages that are made, with the places that their printed tokens have.
use Rattle.std.proofs.Common.{◌≡◌, ℕ, ℤ, zero, suc, pos, negsuc, Bool, true, false, List, [], ◌∷◌, ◌++◌, map, Option, Some, None, option_map, refl, ap, sym, subst, ◌∙◌, arith, append_assoc}
use Rattle.std.proofs.lemmas.List.{append-nil}
use Rattle.std.specs.Prelude.{codes}
use Rattle.nb_script.specs.declared.lexeme.Symbol.TheVariants as sym'
use Rattle.nb_script.specs.declared.lexeme.Content.{Content}
use Rattle.nb_script.specs.declared.lexeme.Content.TheVariants as c
use Rattle.nb_script.specs.declared.expr.Dotted.{Dotted}
use Rattle.nb_script.specs.declared.expr.TypeName.{TypeName}
use Rattle.nb_script.specs.declared.item.Field.{Field as FieldLine}
use Rattle.nb_script.specs.declared.item.MessageField.{MessageField}
use Rattle.nb_script.specs.declared.item.Literal.{Literal}
use Rattle.nb_script.specs.declared.item.Literal.TheVariants as literal
use Rattle.nb_script.specs.declared.item.Since.{Since}
use Rattle.nb_script.specs.declared.item.SagaField.{SagaField}
use Rattle.nb_script.specs.Grammar.{Term, ArgTerm, MakeTerm}
use Rattle.nb_script.specs.Spelling.{Mark, each, comma, expression, IsWithin, IsDotted, Every, IsTypeName, MayPrecede, Strung, IsArg, arg_goes_on, IsMake, message_field_goes_on, saga_field_goes_on, Always}
use Rattle.nb_script.specs.Spelling as spelled
use Rattle.nb_script.specs.Printing.{expr, all_of, behind_comma, listed}
use Rattle.nb_script.specs.Printing as printed
use Rattle.nb_script.specs.Bare as bare
use Rattle.nb_script.specs.Respelling.{placed}
use Rattle.nb_script.proofs.Again.{past, Shown, shown_more, shown_join, again, again_shown, again_within, again_bare, again_kept, Kept, kept_join, kept_front, kept_back, Bare}

-- y is x with the places of the printed tokens xs, which have the numbers from k on.
pub record Redone {A : Type 0} (f : ℕ → ℕ) (k : ℕ) (spell : ℕ → A → List Mark) (xs : List Content) (Is : A → Type 0) (strip : A → A) (x y : A) : Type 0 where
  pub shown : (room : ℕ) → Shown f k (spell room y) xs
  pub fits : Is y
  pub same : strip y ≡ strip x
  pub kept : (room : ℕ) → Kept (spell room x) → Kept (spell room y)

pub past_append : (k : ℕ) (xs ys : List Content) → past k (xs ++ ys) ≡ past (past k xs) ys
past_append k [] ys = refl
past_append k (x ∷ xs) ys = past_append (suc k) xs ys

pub shown_ends : (f : ℕ → ℕ) (k : ℕ) (ms : List Mark) (xs : List Content) → Shown f k ms xs → Shown f k (ms ++ []) xs
shown_ends f k ms xs it = shown_join f k ms [] xs [] it refl ∙ ap (placed f k) (append-nil xs)

pub expr_redone : (f : ℕ → ℕ) (k : ℕ) (e : Term) → IsWithin 5 e → Redone f k expression (expr 5 e) (IsWithin 5) bare.term e (again f k 5 e)
expr_redone f k e it = record {
  shown = λ room. again_shown f k 5 room 1000 e;
  fits = again_within f k 5 5 e it;
  same = again_bare f k 5 e;
  kept = λ room all. again_kept f k 5 5 room room 1000 e all it (omega arith) (Bare (omega arith));
}

-- ---- types

abbrev pub dots_again : (ℕ → ℕ) → ℕ → List Dotted → List Dotted
dots_again f k [] = []
dots_again f k (d ∷ ds) = record { dot_at = f k; at = f (suc k); name = d.name } ∷ dots_again f (suc (suc k)) ds

dots_shown : (f : ℕ → ℕ) (k : ℕ) (ds : List Dotted) → Shown f k (each spelled.dotted (dots_again f k ds)) (all_of printed.dotted ds)
dots_shown f k [] = refl
dots_shown f k (d ∷ ds) = shown_more f k (c.Symbol sym'.Dot) (shown_more f (suc k) (c.Word d.name) (dots_shown f (suc (suc k)) ds))

dots_fit : (f : ℕ → ℕ) (k : ℕ) (ds : List Dotted) → Every IsDotted ds → Every IsDotted (dots_again f k ds)
dots_fit f k [] it = tt
dots_fit f k (d ∷ ds) it = (it.0, dots_fit f (suc (suc k)) ds it.1)

dots_same : (f : ℕ → ℕ) (k : ℕ) (ds : List Dotted) → map bare.dotted (dots_again f k ds) ≡ map bare.dotted ds
dots_same f k [] = refl
dots_same f k (d ∷ ds) = ap (λ es. bare.dotted d ∷ es) (dots_same f (suc (suc k)) ds)

dots_kept : (f : ℕ → ℕ) (k : ℕ) (ds : List Dotted) → Kept (each spelled.dotted ds) → Kept (each spelled.dotted (dots_again f k ds))
dots_kept f k [] all = tt
dots_kept f k (d ∷ ds) all = (all.0, (all.1.0, dots_kept f (suc (suc k)) ds all.1.1))

abbrev pub type_again : (ℕ → ℕ) → ℕ → TypeName → TypeName
type_again f k t = record { at = f k; name = t.name; others = dots_again f (suc k) t.others }

abbrev pub spell_type : ℕ → TypeName → List Mark
spell_type room t = spelled.type_name t

pub type_redone : (f : ℕ → ℕ) (k : ℕ) (t : TypeName) → IsTypeName t → Redone f k spell_type (printed.type_name t) IsTypeName bare.type_name t (type_again f k t)
type_redone f k t it = record {
  shown = λ room. shown_more f k (c.Word t.name) (dots_shown f (suc k) t.others);
  fits = (it.0, dots_fit f (suc k) t.others it.1);
  same = ap (λ ds. record { at = 0; name = t.name; others = ds }) (dots_same f (suc k) t.others);
  kept = λ room all. (all.0, dots_kept f (suc k) t.others all.1);
}

-- ---- lists with commas

abbrev pub strung_on : {X : Type 0} (put : ℕ → X → Option ℕ → X) (print : X → List Content) (f : ℕ → ℕ) (k : ℕ) → X → List X → List X
strung_on put print f k x [] = put k x None ∷ []
strung_on put print f k x (y ∷ ys) = put k x (Some (f (past k (print x)))) ∷ strung_on put print f (suc (past k (print x))) y ys

abbrev pub strung_again : {X : Type 0} (put : ℕ → X → Option ℕ → X) (print : X → List Content) (f : ℕ → ℕ) (k : ℕ) → List X → List X
strung_again put print f k [] = []
strung_again put print f k (x ∷ xs) = strung_on put print f k x xs

-- an element with a comma behind it, or without
pub record IsPut {X : Type 0} (f : ℕ → ℕ) (spell : ℕ → X → List Mark) (print : X → List Content) (more : X → Bool) (Is : X → Type 0) (strip : X → X) (put : ℕ → X → Option ℕ → X) : Type 0 where
  pub last : (k : ℕ) (x : X) → Is x → Redone f k spell (print x) Is strip x (put k x None)
  pub inner : (k : ℕ) (x : X) → Is x → Redone f k spell (print x ++ c.Symbol sym'.Comma ∷ []) Is strip x (put k x (Some (f (past k (print x)))))
  pub goes_on : (k : ℕ) (x : X) (p : ℕ) → more (put k x (Some p)) ≡ true

nothing_follows : (X : Type 0) (b : Bool) → MayPrecede {A = X} b []
nothing_follows X true = tt
nothing_follows X false = tt

module _ {X : Type 0} (f : ℕ → ℕ) (spell : ℕ → X → List Mark) (print : X → List Content) (more : X → Bool) (Is : X → Type 0) (strip : X → X) (put : ℕ → X → Option ℕ → X) (is : IsPut f spell print more Is strip put) where
  strung_shown : (k room : ℕ) (x : X) (xs : List X) → Strung more Is (x ∷ xs) → Shown f k (each (spell room) (strung_on put print f k x xs)) (print x ++ all_of (behind_comma print) xs)
  strung_shown k room x [] it = shown_join f k (spell room (put k x None)) [] (print x) [] ((is.last k x it.0).shown room) refl
  strung_shown k room x (y ∷ ys) it =
      shown_join f k (spell room (put k x (Some (f (past k (print x)))))) _ (print x ++ c.Symbol sym'.Comma ∷ []) (print y ++ all_of (behind_comma print) ys) ((is.inner k x it.0).shown room)
      (subst (λ i. Shown f i (each (spell room) (strung_on put print f (suc (past k (print x))) y ys)) (print y ++ all_of (behind_comma print) ys)) (sym (past_append k (print x) (c.Symbol sym'.Comma ∷ []))) (strung_shown (suc (past k (print x))) room y ys it.2))
      ∙ ap (placed f k) (append_assoc (print x) (c.Symbol sym'.Comma ∷ []) (print y ++ all_of (behind_comma print) ys))

  strung_fits : (k : ℕ) (x : X) (xs : List X) → Strung more Is (x ∷ xs) → Strung more Is (strung_on put print f k x xs)
  strung_fits k x [] it = ((is.last k x it.0).fits, nothing_follows X (more (put k x None)), tt)
  strung_fits k x (y ∷ ys) it =
      ((is.inner k x it.0).fits, subst (λ b. MayPrecede b (strung_on put print f (suc (past k (print x))) y ys)) (sym (is.goes_on k x (f (past k (print x))))) tt, strung_fits (suc (past k (print x))) y ys it.2)

  strung_same : (k : ℕ) (x : X) (xs : List X) → Strung more Is (x ∷ xs) → map strip (strung_on put print f k x xs) ≡ map strip (x ∷ xs)
  strung_same k x [] it = ap (λ y. y ∷ []) (is.last k x it.0).same
  strung_same k x (y ∷ ys) it = ap (λ z. z ∷ map strip (strung_on put print f (suc (past k (print x))) y ys)) (is.inner k x it.0).same ∙ ap (λ zs. strip x ∷ zs) (strung_same (suc (past k (print x))) y ys it.2)

  strung_kept : (k room : ℕ) (x : X) (xs : List X) → Strung more Is (x ∷ xs) → Kept (each (spell room) (x ∷ xs)) → Kept (each (spell room) (strung_on put print f k x xs))
  strung_kept k room x [] it all = kept_join (spell room (put k x None)) [] ((is.last k x it.0).kept room (kept_front (spell room x) [] all)) tt
  strung_kept k room x (y ∷ ys) it all =
      kept_join (spell room (put k x (Some (f (past k (print x)))))) _ ((is.inner k x it.0).kept room (kept_front (spell room x) (each (spell room) (y ∷ ys)) all))
      (strung_kept (suc (past k (print x))) room y ys it.2 (kept_back (spell room x) (each (spell room) (y ∷ ys)) all))

  pub strung_redone : (k : ℕ) (xs : List X) → Strung more Is xs → Redone f k (λ room. each (spell room)) (listed print xs) (Strung more Is) (map strip) xs (strung_again put print f k xs)
  strung_redone k [] it = record { shown = λ room. refl; fits = tt; same = refl; kept = λ room all. tt }
  strung_redone k (x ∷ xs) it = record {
    shown = λ room. strung_shown k room x xs it;
    fits = strung_fits k x xs it;
    same = strung_same k x xs it;
    kept = λ room all. strung_kept k room x xs it all;
  }

comma_kept : (o : Option ℕ) → Kept (comma o)
comma_kept None = tt
comma_kept (Some p) = ((refl, tt), tt)

-- ---- messages that are made

abbrev pub put_arg : (ℕ → ℕ) → ℕ → ArgTerm → Option ℕ → ArgTerm
put_arg f k a o = record { at = f k; name = a.name; colon_at = f (suc k); value = again f (suc (suc k)) 5 a.value; comma_at = o }

arg_same : (f : ℕ → ℕ) (k : ℕ) (a : ArgTerm) (o : Option ℕ) → bare.arg (put_arg f k a o) ≡ bare.arg a
arg_same f k a o = ap (λ t. record { at = 0; name = a.name; colon_at = 0; value = t; comma_at = None }) (again_bare f (suc (suc k)) 5 a.value)

arg_kept : (f : ℕ → ℕ) (k : ℕ) (a : ArgTerm) (o : Option ℕ) → IsArg a → (room : ℕ) → Kept (spelled.arg room a) → Kept (spelled.arg room (put_arg f k a o))
arg_kept f k a o it room all =
    (all.0, (all.1.0, kept_join (expression room (again f (suc (suc k)) 5 a.value)) (comma o) ((expr_redone f (suc (suc k)) a.value it).kept room (kept_front (expression room a.value) (comma a.comma_at) all.1.1)) (comma_kept o)))

arg_put : (f : ℕ → ℕ) → IsPut f spelled.arg printed.arg arg_goes_on IsArg bare.arg (put_arg f)
arg_put f = record {
  last = λ k a it. record {
    shown = λ room. shown_more f k (c.Word a.name) (shown_more f (suc k) (c.Symbol sym'.Colon) (shown_ends f (suc (suc k)) _ (expr 5 a.value) (again_shown f (suc (suc k)) 5 room 1000 a.value)));
    fits = again_within f (suc (suc k)) 5 5 a.value it;
    same = arg_same f k a None;
    kept = arg_kept f k a None it;
  };
  inner = λ k a it. record {
    shown = λ room. shown_more f k (c.Word a.name) (shown_more f (suc k) (c.Symbol sym'.Colon) (shown_join f (suc (suc k)) _ _ (expr 5 a.value) (c.Symbol sym'.Comma ∷ []) (again_shown f (suc (suc k)) 5 room 1000 a.value) refl));
    fits = again_within f (suc (suc k)) 5 5 a.value it;
    same = arg_same f k a (Some (f (past k (printed.arg a))));
    kept = arg_kept f k a (Some (f (past k (printed.arg a)))) it;
  };
  goes_on = λ k a p. refl;
}

abbrev pub make_again : (ℕ → ℕ) → ℕ → MakeTerm → MakeTerm
make_again f k m = record {
  name = type_again f k m.name;
  open_at = f (past k (printed.type_name m.name));
  args = strung_again (put_arg f) printed.arg f (suc (past k (printed.type_name m.name))) m.args;
  close_at = f (past (suc (past k (printed.type_name m.name))) (listed printed.arg m.args));
}

pub make_redone : (f : ℕ → ℕ) (k : ℕ) (m : MakeTerm) → IsMake m → Redone f k spelled.make (printed.make m) IsMake bare.make m (make_again f k m)
make_redone f k m it =
    let name = type_redone f k m.name it.name in
    let next = past k (printed.type_name m.name) in
    let args = strung_redone f spelled.arg printed.arg arg_goes_on IsArg bare.arg (put_arg f) (arg_put f) (suc next) m.args it.args in
    record {
      shown = λ room. shown_join f k (spelled.type_name (type_again f k m.name)) (spelled.symbol sym'.OpenBrace (f next) ∷ (each (spelled.arg room) (strung_again (put_arg f) printed.arg f (suc next) m.args) ++ spelled.symbol sym'.CloseBrace (f (past (suc next) (listed printed.arg m.args))) ∷ []))
          (printed.type_name m.name) (c.Symbol sym'.OpenBrace ∷ (listed printed.arg m.args ++ c.Symbol sym'.CloseBrace ∷ [])) (name.shown room)
          (shown_more f next (c.Symbol sym'.OpenBrace) (shown_join f (suc next) (each (spelled.arg room) (strung_again (put_arg f) printed.arg f (suc next) m.args)) (spelled.symbol sym'.CloseBrace (f (past (suc next) (listed printed.arg m.args))) ∷ []) (listed printed.arg m.args) (c.Symbol sym'.CloseBrace ∷ []) (args.shown room) refl));
      fits = record { name = name.fits; args = args.fits };
      same = ap (λ t. record { name = t; open_at = 0; args = map bare.arg (strung_again (put_arg f) printed.arg f (suc next) m.args); close_at = 0 }) name.same ∙ ap (λ xs. record { name = bare.type_name m.name; open_at = 0; args = xs; close_at = 0 }) args.same;
      kept = λ room all. (
          let back = kept_back (spelled.type_name m.name) _ all in
          kept_join (spelled.type_name (type_again f k m.name)) _ (name.kept room (kept_front (spelled.type_name m.name) _ all)) ((refl, tt), kept_join _ _ (args.kept room (kept_front (each (spelled.arg room) m.args) _ back.1)) ((refl, tt), tt)));
    }

-- ---- fields

abbrev pub field_again : (ℕ → ℕ) → ℕ → FieldLine → FieldLine
field_again f k x = record { at = f k; name = x.name; colon_at = f (suc k); kind_at = f (suc (suc k)); kind = x.kind }

abbrev pub put_message_field : (ℕ → ℕ) → ℕ → MessageField → Option ℕ → MessageField
put_message_field f k x o = record { field = field_again f k x.field; comma_at = o }

abbrev pub spell_message_field : ℕ → MessageField → List Mark
spell_message_field room x = spelled.message_field x

pub message_field_put : (f : ℕ → ℕ) → IsPut f spell_message_field printed.message_field message_field_goes_on Always bare.message_field (put_message_field f)
message_field_put f = record {
  last = λ k x it. record { shown = λ room. refl; fits = tt; same = refl; kept = λ room all. (all.0, (all.1.0, (all.1.1.0, tt))) };
  inner = λ k x it. record { shown = λ room. refl; fits = tt; same = refl; kept = λ room all. (all.0, (all.1.0, (all.1.1.0, ((refl, tt), tt)))) };
  goes_on = λ k x p. refl;
}

abbrev pub number_again : (ℕ → ℕ) → ℕ → Option ℕ → ℤ → Literal
number_again f k None n = literal.Number None (f k) n
number_again f k (Some p) (pos zero) = literal.Number None (f k) (pos zero)
number_again f k (Some p) (pos (suc n)) = literal.Number (Some (f k)) (f (suc k)) (pos (suc n))
number_again f k (Some p) (negsuc n) = literal.Number (Some (f k)) (f (suc k)) (negsuc n)

abbrev pub literal_again : (ℕ → ℕ) → ℕ → Literal → Literal
literal_again f k (literal.Number m p n) = number_again f k m n
literal_again f k (literal.Quoted p t) = literal.Quoted (f k) t
literal_again f k (literal.Truth p b) = literal.Truth (f k) b

literal_shown : (f : ℕ → ℕ) (k : ℕ) (l : Literal) → Shown f k (spelled.literal_spelling (literal_again f k l)) (printed.literal_tokens l)
literal_shown f k (literal.Number None p n) = refl
literal_shown f k (literal.Number (Some q) p (pos zero)) = refl
literal_shown f k (literal.Number (Some q) p (pos (suc n))) = refl
literal_shown f k (literal.Number (Some q) p (negsuc n)) = refl
literal_shown f k (literal.Quoted p t) = refl
literal_shown f k (literal.Truth p b) = refl

literal_same : (f : ℕ → ℕ) (k : ℕ) (l : Literal) → bare.literal_of (literal_again f k l) ≡ bare.literal_of l
literal_same f k (literal.Number None p n) = refl
literal_same f k (literal.Number (Some q) p (pos zero)) = refl
literal_same f k (literal.Number (Some q) p (pos (suc n))) = refl
literal_same f k (literal.Number (Some q) p (negsuc n)) = refl
literal_same f k (literal.Quoted p t) = refl
literal_same f k (literal.Truth p b) = refl

literal_kept : (f : ℕ → ℕ) (k : ℕ) (l : Literal) → Kept (spelled.literal_spelling l) → Kept (spelled.literal_spelling (literal_again f k l))
literal_kept f k (literal.Number None p n) all = all
literal_kept f k (literal.Number (Some q) p (pos zero)) all = all.1
literal_kept f k (literal.Number (Some q) p (pos (suc n))) all = all
literal_kept f k (literal.Number (Some q) p (negsuc n)) all = all
literal_kept f k (literal.Quoted p t) all = all
literal_kept f k (literal.Truth p b) all = all

abbrev pub since_again : (ℕ → ℕ) → ℕ → Option Since → Option Since
since_again f k None = None
since_again f k (Some s) = Some (record { at = f k; number_at = f (suc k); revision = s.revision; equals_at = f (suc (suc k)); literal = literal_again f (suc (suc (suc k))) s.literal })

since_shown : (f : ℕ → ℕ) (k : ℕ) (s : Option Since) → Shown f k (spelled.since (since_again f k s)) (printed.since s)
since_shown f k None = refl
since_shown f k (Some s) =
    shown_more f k (c.Word (codes "since")) (shown_more f (suc k) (c.Number s.revision) (shown_more f (suc (suc k)) (c.Symbol sym'.Assign) (literal_shown f (suc (suc (suc k))) s.literal)))

since_same : (f : ℕ → ℕ) (k : ℕ) (s : Option Since) → option_map bare.since (since_again f k s) ≡ option_map bare.since s
since_same f k None = refl
since_same f k (Some s) = ap (λ l. Some (record { at = 0; number_at = 0; revision = s.revision; equals_at = 0; literal = l })) (literal_same f (suc (suc (suc k))) s.literal)

since_kept : (f : ℕ → ℕ) (k : ℕ) (s : Option Since) → Kept (spelled.since s) → Kept (spelled.since (since_again f k s))
since_kept f k None all = tt
since_kept f k (Some s) all = (all.0, (all.1.0, (all.1.1.0, literal_kept f (suc (suc (suc k))) s.literal all.1.1.1)))

abbrev pub put_saga_field : (ℕ → ℕ) → ℕ → SagaField → Option ℕ → SagaField
put_saga_field f k x o = record { field = field_again f k x.field; since = since_again f (suc (suc (suc k))) x.since; comma_at = o }

abbrev pub spell_saga_field : ℕ → SagaField → List Mark
spell_saga_field room x = spelled.saga_field x

saga_field_same : (f : ℕ → ℕ) (k : ℕ) (x : SagaField) (o : Option ℕ) → bare.saga_field (put_saga_field f k x o) ≡ bare.saga_field x
saga_field_same f k x o = ap (λ s. record { field = bare.field x.field; since = s; comma_at = None }) (since_same f (suc (suc (suc k))) x.since)

saga_field_kept : (f : ℕ → ℕ) (k : ℕ) (x : SagaField) (o : Option ℕ) → Kept (spelled.saga_field x) → Kept (spelled.saga_field (put_saga_field f k x o))
saga_field_kept f k x o all =
    (all.0, (all.1.0, (all.1.1.0, kept_join (spelled.since (since_again f (suc (suc (suc k))) x.since)) (comma o) (since_kept f (suc (suc (suc k))) x.since (kept_front (spelled.since x.since) (comma x.comma_at) all.1.1.1)) (comma_kept o))))

-- the three tokens of a field, and what follows
field_shown : (f : ℕ → ℕ) (k : ℕ) (x : FieldLine) (ms : List Mark) (xs : List Content) → Shown f (suc (suc (suc k))) ms xs → Shown f k (spelled.field (field_again f k x) ++ ms) (printed.field x ++ xs)
field_shown f k x ms xs it = shown_join f k (spelled.field (field_again f k x)) ms (printed.field x) xs refl it

pub saga_field_put : (f : ℕ → ℕ) → IsPut f spell_saga_field printed.saga_field saga_field_goes_on Always bare.saga_field (put_saga_field f)
saga_field_put f = record {
  last = λ k x it. record {
    shown = λ room. field_shown f k x.field _ (printed.since x.since) (shown_ends f (suc (suc (suc k))) _ (printed.since x.since) (since_shown f (suc (suc (suc k))) x.since));
    fits = tt;
    same = saga_field_same f k x None;
    kept = λ room all. saga_field_kept f k x None all;
  };
  inner = λ k x it. record {
    shown = λ room. field_shown f k x.field _ (printed.since x.since ++ c.Symbol sym'.Comma ∷ []) (shown_join f (suc (suc (suc k))) _ _ (printed.since x.since) (c.Symbol sym'.Comma ∷ []) (since_shown f (suc (suc (suc k))) x.since) refl);
    fits = tt;
    same = saga_field_same f k x (Some (f (past k (printed.saga_field x))));
    kept = λ room all. saga_field_kept f k x (Some (f (past k (printed.saga_field x)))) all;
  };
  goes_on = λ k x p. refl;
}
