-- Statements with the places that their printed tokens have.
use Rattle.std.proofs.Common.{◌≡◌, ℕ, suc, List, [], ◌∷◌, ◌++◌, Option, Some, None, option_map, refl, ap, ◌∙◌}
use Rattle.nb_script.specs.declared.lexeme.Keyword.TheVariants as k'
use Rattle.nb_script.specs.declared.lexeme.Symbol.TheVariants as sym'
use Rattle.nb_script.specs.declared.lexeme.Content.TheVariants as c
use Rattle.nb_script.specs.Grammar.{Term, MakeTerm, RowTerm, AfterTerm}
use Rattle.nb_script.specs.Grammar.{Phrase, Let, Set, Put, Add, Erase, Send, Publish, Reply, Timeout, Complete, Refuse, If, Phrases, Nil, Then, Braces, Brace, Otherwise, Nothing, Last, Chain}
use Rattle.nb_script.specs.Spelling.{Mark, one_less, expression, IsWithin, IsMake, IsRowName, IsDelay, IsStatement, AreStatements, IsBlock, IsAlternative, destination_key, refusal_key}
use Rattle.nb_script.specs.Spelling as spelled
use Rattle.nb_script.specs.Printing.{expr, key}
use Rattle.nb_script.specs.Printing as printed
use Rattle.nb_script.specs.Bare as bare
use Rattle.nb_script.proofs.Again.{past, Shown, shown_more, shown_join, again, again_shown, again_within, again_bare, Kept, kept_join, kept_front, kept_back}
use Rattle.nb_script.proofs.AgainParts.{Redone, expr_redone, make_again, make_redone}

-- ---- what stands in statements

ended_shown : (f : ℕ → ℕ) (k : ℕ) (e : Term) (room : ℕ) → Shown f k (expression room (again f k 5 e) ++ spelled.symbol sym'.Semi (f (past k (expr 5 e))) ∷ []) (printed.ended e)
ended_shown f k e room = shown_join f k (expression room (again f k 5 e)) (spelled.symbol sym'.Semi (f (past k (expr 5 e))) ∷ []) (expr 5 e) (c.Symbol sym'.Semi ∷ []) (again_shown f k 5 room 1000 e) refl

ended_kept : (f : ℕ → ℕ) (k : ℕ) (e : Term) (s t room : ℕ) → IsWithin 5 e → Kept (expression room e ++ spelled.symbol sym'.Semi s ∷ []) → Kept (expression room (again f k 5 e) ++ spelled.symbol sym'.Semi t ∷ [])
ended_kept f k e s t room it all =
    kept_join (expression room (again f k 5 e)) (spelled.symbol sym'.Semi t ∷ []) ((expr_redone f k e it).kept room (kept_front (expression room e) (spelled.symbol sym'.Semi s ∷ []) all)) ((refl, tt), tt)

made_shown : (f : ℕ → ℕ) (k : ℕ) (m : MakeTerm) (room : ℕ) → IsMake m → Shown f k (spelled.make room (make_again f k m) ++ spelled.symbol sym'.Semi (f (past k (printed.make m))) ∷ []) (printed.made m)
made_shown f k m room it = shown_join f k (spelled.make room (make_again f k m)) (spelled.symbol sym'.Semi (f (past k (printed.make m))) ∷ []) (printed.make m) (c.Symbol sym'.Semi ∷ []) ((make_redone f k m it).shown room) refl

made_kept : (f : ℕ → ℕ) (k : ℕ) (m : MakeTerm) (s t room : ℕ) → IsMake m → Kept (spelled.make room m ++ spelled.symbol sym'.Semi s ∷ []) → Kept (spelled.make room (make_again f k m) ++ spelled.symbol sym'.Semi t ∷ [])
made_kept f k m s t room it all =
    kept_join (spelled.make room (make_again f k m)) (spelled.symbol sym'.Semi t ∷ []) ((make_redone f k m it).kept room (kept_front (spelled.make room m) (spelled.symbol sym'.Semi s ∷ []) all)) ((refl, tt), tt)

abbrev pub row_again : (ℕ → ℕ) → ℕ → RowTerm → RowTerm
row_again f k r = record { at = f k; open_at = f (suc k); name = again f (suc (suc k)) 5 r.name; close_at = f (past (suc (suc k)) (expr 5 r.name)) }

row_redone : (f : ℕ → ℕ) (k : ℕ) (r : RowTerm) → IsRowName r → Redone f k spelled.row_name (printed.row_name r) IsRowName bare.row_name r (row_again f k r)
row_redone f k r it = record {
  shown = λ room. shown_more f k (key k'.Row) (shown_more f (suc k) (c.Symbol sym'.Open)
      (shown_join f (suc (suc k)) (expression room (again f (suc (suc k)) 5 r.name)) (spelled.symbol sym'.Close (f (past (suc (suc k)) (expr 5 r.name))) ∷ []) (expr 5 r.name) (c.Symbol sym'.Close ∷ []) (again_shown f (suc (suc k)) 5 room 1000 r.name) refl));
  fits = again_within f (suc (suc k)) 5 5 r.name it;
  same = ap (λ t. record { at = 0; open_at = 0; name = t; close_at = 0 }) (again_bare f (suc (suc k)) 5 r.name);
  kept = λ room all. (all.0, (all.1.0, kept_join (expression room (again f (suc (suc k)) 5 r.name)) _ ((expr_redone f (suc (suc k)) r.name it).kept room (kept_front (expression room r.name) _ all.1.1)) ((refl, tt), tt)));
}

abbrev pub delay_again : (ℕ → ℕ) → ℕ → Option AfterTerm → Option AfterTerm
delay_again f k None = None
delay_again f k (Some a) = Some (record { at = f k; delay = again f (suc k) 5 a.delay })

delay_redone : (f : ℕ → ℕ) (k : ℕ) (a : Option AfterTerm) → IsDelay a → Redone f k spelled.delay (printed.delay a) IsDelay (option_map bare.after) a (delay_again f k a)
delay_redone f k None it = record { shown = λ room. refl; fits = tt; same = refl; kept = λ room all. tt }
delay_redone f k (Some a) it = record {
  shown = λ room. shown_more f k (key k'.After) (again_shown f (suc k) 5 room 1000 a.delay);
  fits = again_within f (suc k) 5 5 a.delay it;
  same = ap (λ t. Some (record { at = 0; delay = t })) (again_bare f (suc k) 5 a.delay);
  kept = λ room all. (all.0, (expr_redone f (suc k) a.delay it).kept room all.1);
}

abbrev pub originator_again : (ℕ → ℕ) → ℕ → Option ℕ → Option ℕ
originator_again f k None = None
originator_again f k (Some p) = Some (f k)

originator_shown : (f : ℕ → ℕ) (k : ℕ) (o : Option ℕ) → Shown f k (spelled.originator (originator_again f k o)) (printed.originator o)
originator_shown f k None = refl
originator_shown f k (Some p) = refl

originator_same : (f : ℕ → ℕ) (k : ℕ) (o : Option ℕ) → option_map bare.nowhere (originator_again f k o) ≡ option_map bare.nowhere o
originator_same f k None = refl
originator_same f k (Some p) = refl

originator_kept : (f : ℕ → ℕ) (k : ℕ) (o : Option ℕ) → Kept (spelled.originator o) → Kept (spelled.originator (originator_again f k o))
originator_kept f k None all = tt
originator_kept f k (Some p) all = all

-- ---- statements

abbrev after_row : ℕ → RowTerm → ℕ
after_row k r = past (suc k) (printed.row_name r)

abbrev after_expr : ℕ → Term → ℕ
after_expr k e = past k (expr 5 e)

abbrev mutual
  pub phrase_again : (ℕ → ℕ) → ℕ → Phrase → Phrase
  phrase_again f k (Let p q x u e s) = Let (f k) (f (suc k)) x (f (suc (suc k))) (again f (suc (suc (suc k))) 5 e) (f (after_expr (suc (suc (suc k))) e))
  phrase_again f k (Set p q x u e s) = Set (f k) (f (suc k)) x (f (suc (suc k))) (again f (suc (suc (suc k))) 5 e) (f (after_expr (suc (suc (suc k))) e))
  phrase_again f k (Put p r u e s) = Put (f k) (row_again f (suc k) r) (f (after_row k r)) (again f (suc (after_row k r)) 5 e) (f (after_expr (suc (after_row k r)) e))
  phrase_again f k (Add p r u e s) = Add (f k) (row_again f (suc k) r) (f (after_row k r)) (again f (suc (after_row k r)) 5 e) (f (after_expr (suc (after_row k r)) e))
  phrase_again f k (Erase p r s) = Erase (f k) (row_again f (suc k) r) (f (after_row k r))
  phrase_again f k (Send a p to m s) = Send (delay_again f k a) (f (past k (printed.delay a))) to (make_again f (suc (past k (printed.delay a))) m) (f (past (suc (past k (printed.delay a))) (printed.make m)))
  phrase_again f k (Publish p m s) = Publish (f k) (make_again f (suc k) m) (f (past (suc k) (printed.make m)))
  phrase_again f k (Reply p o m s) = Reply (f k) (originator_again f (suc k) o) (make_again f (past (suc k) (printed.originator o)) m) (f (past (past (suc k) (printed.originator o)) (printed.make m)))
  phrase_again f k (Timeout p e m s) = Timeout (f k) (again f (suc k) 5 e) (make_again f (after_expr (suc k) e) m) (f (past (after_expr (suc k) e) (printed.make m)))
  phrase_again f k (Complete p s) = Complete (f k) (f (suc k))
  phrase_again f k (Refuse p r q x e s) = Refuse (f k) r (f (suc k)) x (again f (suc (suc k)) 5 e) (f (after_expr (suc (suc k)) e))
  phrase_again f k (If p e b o) = If (f k) (again f (suc k) 5 e) (braces_again f (after_expr (suc k) e) b) (otherwise_again f (past (after_expr (suc k) e) (printed.block b)) o)

  pub phrases_again : (ℕ → ℕ) → ℕ → Phrases → Phrases
  phrases_again f k Nil = Nil
  phrases_again f k (Then x xs) = Then (phrase_again f k x) (phrases_again f (past k (printed.statement x)) xs)

  pub braces_again : (ℕ → ℕ) → ℕ → Braces → Braces
  braces_again f k (Brace o b q) = Brace (f k) (phrases_again f (suc k) b) (f (past (suc k) (printed.statements b)))

  pub otherwise_again : (ℕ → ℕ) → ℕ → Otherwise → Otherwise
  otherwise_again f k Nothing = Nothing
  otherwise_again f k (Last p b) = Last (f k) (braces_again f (suc k) b)
  otherwise_again f k (Chain p q e b o) = Chain (f k) (f (suc k)) (again f (suc (suc k)) 5 e) (braces_again f (after_expr (suc (suc k)) e) b) (otherwise_again f (past (after_expr (suc (suc k)) e) (printed.block b)) o)

abbrev PhraseRedone : (ℕ → ℕ) → ℕ → Phrase → Type 0
PhraseRedone f k x = Redone f k spelled.statement (printed.statement x) IsStatement bare.phrase x (phrase_again f k x)

-- each kind of statement without a block

let_redone : (f : ℕ → ℕ) (k p q : ℕ) (x : List ℕ) (u : ℕ) (e : Term) (s : ℕ) → IsStatement (Let p q x u e s) → PhraseRedone f k (Let p q x u e s)
let_redone f k p q x u e s it = record {
  shown = λ room. shown_more f k (key k'.Let) (shown_more f (suc k) (c.Word x) (shown_more f (suc (suc k)) (c.Symbol sym'.Assign) (ended_shown f (suc (suc (suc k))) e room)));
  fits = (it.0, again_within f (suc (suc (suc k))) 5 5 e it.1);
  same = ap (λ t. Let 0 0 x 0 t 0) (again_bare f (suc (suc (suc k))) 5 e);
  kept = λ room all. (all.0, (all.1.0, (all.1.1.0, ended_kept f (suc (suc (suc k))) e s _ room it.1 all.1.1.1)));
}

set_redone : (f : ℕ → ℕ) (k p q : ℕ) (x : List ℕ) (u : ℕ) (e : Term) (s : ℕ) → IsWithin 5 e → PhraseRedone f k (Set p q x u e s)
set_redone f k p q x u e s it = record {
  shown = λ room. shown_more f k (key k'.Set) (shown_more f (suc k) (c.Word x) (shown_more f (suc (suc k)) (c.Symbol sym'.Assign) (ended_shown f (suc (suc (suc k))) e room)));
  fits = again_within f (suc (suc (suc k))) 5 5 e it;
  same = ap (λ t. Set 0 0 x 0 t 0) (again_bare f (suc (suc (suc k))) 5 e);
  kept = λ room all. (all.0, (all.1.0, (all.1.1.0, ended_kept f (suc (suc (suc k))) e s _ room it all.1.1.1)));
}

put_redone : (f : ℕ → ℕ) (k p : ℕ) (r : RowTerm) (u : ℕ) (e : Term) (s : ℕ) → IsRowName r → IsWithin 5 e → PhraseRedone f k (Put p r u e s)
put_redone f k p r u e s row it =
    let name = row_redone f (suc k) r row in
    record {
      shown = λ room. shown_more f k (key k'.Put) (shown_join f (suc k) (spelled.row_name room (row_again f (suc k) r)) (spelled.symbol sym'.Assign (f (after_row k r)) ∷ (expression room (again f (suc (after_row k r)) 5 e) ++ spelled.symbol sym'.Semi (f (after_expr (suc (after_row k r)) e)) ∷ []))
          (printed.row_name r) (c.Symbol sym'.Assign ∷ printed.ended e) (name.shown room) (shown_more f (after_row k r) (c.Symbol sym'.Assign) (ended_shown f (suc (after_row k r)) e room)));
      fits = (name.fits, again_within f (suc (after_row k r)) 5 5 e it);
      same = ap (λ t. Put 0 t 0 (bare.term (again f (suc (after_row k r)) 5 e)) 0) name.same ∙ ap (λ t. Put 0 (bare.row_name r) 0 t 0) (again_bare f (suc (after_row k r)) 5 e);
      kept = λ room all. (all.0, kept_join (spelled.row_name room (row_again f (suc k) r)) _ (name.kept room (kept_front (spelled.row_name room r) _ all.1)) ((kept_back (spelled.row_name room r) _ all.1).0, ended_kept f (suc (after_row k r)) e s _ room it (kept_back (spelled.row_name room r) _ all.1).1));
    }

add_redone : (f : ℕ → ℕ) (k p : ℕ) (r : RowTerm) (u : ℕ) (e : Term) (s : ℕ) → IsRowName r → IsWithin 5 e → PhraseRedone f k (Add p r u e s)
add_redone f k p r u e s row it =
    let name = row_redone f (suc k) r row in
    record {
      shown = λ room. shown_more f k (key k'.Add) (shown_join f (suc k) (spelled.row_name room (row_again f (suc k) r)) (spelled.key k'.By (f (after_row k r)) ∷ (expression room (again f (suc (after_row k r)) 5 e) ++ spelled.symbol sym'.Semi (f (after_expr (suc (after_row k r)) e)) ∷ []))
          (printed.row_name r) (key k'.By ∷ printed.ended e) (name.shown room) (shown_more f (after_row k r) (key k'.By) (ended_shown f (suc (after_row k r)) e room)));
      fits = (name.fits, again_within f (suc (after_row k r)) 5 5 e it);
      same = ap (λ t. Add 0 t 0 (bare.term (again f (suc (after_row k r)) 5 e)) 0) name.same ∙ ap (λ t. Add 0 (bare.row_name r) 0 t 0) (again_bare f (suc (after_row k r)) 5 e);
      kept = λ room all. (all.0, kept_join (spelled.row_name room (row_again f (suc k) r)) _ (name.kept room (kept_front (spelled.row_name room r) _ all.1)) ((kept_back (spelled.row_name room r) _ all.1).0, ended_kept f (suc (after_row k r)) e s _ room it (kept_back (spelled.row_name room r) _ all.1).1));
    }

erase_redone : (f : ℕ → ℕ) (k p : ℕ) (r : RowTerm) (s : ℕ) → IsRowName r → PhraseRedone f k (Erase p r s)
erase_redone f k p r s row =
    let name = row_redone f (suc k) r row in
    record {
      shown = λ room. shown_more f k (key k'.Erase) (shown_join f (suc k) (spelled.row_name room (row_again f (suc k) r)) (spelled.symbol sym'.Semi (f (after_row k r)) ∷ []) (printed.row_name r) (c.Symbol sym'.Semi ∷ []) (name.shown room) refl);
      fits = name.fits;
      same = ap (λ t. Erase 0 t 0) name.same;
      kept = λ room all. (all.0, kept_join (spelled.row_name room (row_again f (suc k) r)) _ (name.kept room (kept_front (spelled.row_name room r) _ all.1)) ((refl, tt), tt));
    }

send_redone : (f : ℕ → ℕ) (k : ℕ) (a : Option AfterTerm) (p : ℕ) (to : _) (m : MakeTerm) (s : ℕ) → IsDelay a → IsMake m → PhraseRedone f k (Send a p to m s)
send_redone f k a p to m s delayed it =
    let wait = delay_redone f k a delayed in
    let here = past k (printed.delay a) in
    record {
      shown = λ room. shown_join f k (spelled.delay room (delay_again f k a)) (spelled.key (destination_key to) (f here) ∷ (spelled.make room (make_again f (suc here) m) ++ spelled.symbol sym'.Semi (f (past (suc here) (printed.make m))) ∷ []))
          (printed.delay a) (key (destination_key to) ∷ printed.made m) (wait.shown room) (shown_more f here (key (destination_key to)) (made_shown f (suc here) m room it));
      fits = (wait.fits, (make_redone f (suc here) m it).fits);
      same = ap (λ t. Send t 0 to (bare.make (make_again f (suc here) m)) 0) wait.same ∙ ap (λ t. Send (option_map bare.after a) 0 to t 0) (make_redone f (suc here) m it).same;
      kept = λ room all. kept_join (spelled.delay room (delay_again f k a)) _ (wait.kept room (kept_front (spelled.delay room a) _ all)) ((kept_back (spelled.delay room a) _ all).0, made_kept f (suc here) m s _ room it (kept_back (spelled.delay room a) _ all).1);
    }

publish_redone : (f : ℕ → ℕ) (k p : ℕ) (m : MakeTerm) (s : ℕ) → IsMake m → PhraseRedone f k (Publish p m s)
publish_redone f k p m s it = record {
  shown = λ room. shown_more f k (key k'.Publish) (made_shown f (suc k) m room it);
  fits = (make_redone f (suc k) m it).fits;
  same = ap (λ t. Publish 0 t 0) (make_redone f (suc k) m it).same;
  kept = λ room all. (all.0, made_kept f (suc k) m s _ room it all.1);
}

reply_redone : (f : ℕ → ℕ) (k p : ℕ) (o : Option ℕ) (m : MakeTerm) (s : ℕ) → IsMake m → PhraseRedone f k (Reply p o m s)
reply_redone f k p o m s it =
    let here = past (suc k) (printed.originator o) in
    record {
      shown = λ room. shown_more f k (key k'.Reply) (shown_join f (suc k) (spelled.originator (originator_again f (suc k) o)) (spelled.make room (make_again f here m) ++ spelled.symbol sym'.Semi (f (past here (printed.make m))) ∷ [])
          (printed.originator o) (printed.made m) (originator_shown f (suc k) o) (made_shown f here m room it));
      fits = (make_redone f here m it).fits;
      same = ap (λ t. Reply 0 t (bare.make (make_again f here m)) 0) (originator_same f (suc k) o) ∙ ap (λ t. Reply 0 (option_map bare.nowhere o) t 0) (make_redone f here m it).same;
      kept = λ room all. (all.0, kept_join (spelled.originator (originator_again f (suc k) o)) _ (originator_kept f (suc k) o (kept_front (spelled.originator o) _ all.1)) (made_kept f here m s _ room it (kept_back (spelled.originator o) _ all.1)));
    }

timeout_redone : (f : ℕ → ℕ) (k p : ℕ) (e : Term) (m : MakeTerm) (s : ℕ) → IsWithin 5 e → IsMake m → PhraseRedone f k (Timeout p e m s)
timeout_redone f k p e m s within it =
    let wait = expr_redone f (suc k) e within in
    let here = after_expr (suc k) e in
    record {
      shown = λ room. shown_more f k (key k'.Timeout) (shown_join f (suc k) (expression room (again f (suc k) 5 e)) (spelled.make room (make_again f here m) ++ spelled.symbol sym'.Semi (f (past here (printed.make m))) ∷ [])
          (expr 5 e) (printed.made m) (wait.shown room) (made_shown f here m room it));
      fits = (wait.fits, (make_redone f here m it).fits);
      same = ap (λ t. Timeout 0 t (bare.make (make_again f here m)) 0) wait.same ∙ ap (λ t. Timeout 0 (bare.term e) t 0) (make_redone f here m it).same;
      kept = λ room all. (all.0, kept_join (expression room (again f (suc k) 5 e)) _ (wait.kept room (kept_front (expression room e) _ all.1)) (made_kept f here m s _ room it (kept_back (expression room e) _ all.1)));
    }

refuse_redone : (f : ℕ → ℕ) (k p : ℕ) (r : _) (q : ℕ) (x : List ℕ) (e : Term) (s : ℕ) → IsStatement (Refuse p r q x e s) → PhraseRedone f k (Refuse p r q x e s)
refuse_redone f k p r q x e s it = record {
  shown = λ room. shown_more f k (key (refusal_key r)) (shown_more f (suc k) (c.Word x) (ended_shown f (suc (suc k)) e room));
  fits = (it.0, again_within f (suc (suc k)) 5 5 e it.1);
  same = ap (λ t. Refuse 0 r 0 x t 0) (again_bare f (suc (suc k)) 5 e);
  kept = λ room all. (all.0, (all.1.0, ended_kept f (suc (suc k)) e s _ room it.1 all.1.1));
}

mutual
  pub phrase_redone : (f : ℕ → ℕ) (k : ℕ) (x : Phrase) → IsStatement x → PhraseRedone f k x
  phrase_redone f k (Let p q x u e s) it = let_redone f k p q x u e s it
  phrase_redone f k (Set p q x u e s) it = set_redone f k p q x u e s it
  phrase_redone f k (Put p r u e s) it = put_redone f k p r u e s it.0 it.1
  phrase_redone f k (Add p r u e s) it = add_redone f k p r u e s it.0 it.1
  phrase_redone f k (Erase p r s) it = erase_redone f k p r s it
  phrase_redone f k (Send a p to m s) it = send_redone f k a p to m s it.0 it.1
  phrase_redone f k (Publish p m s) it = publish_redone f k p m s it
  phrase_redone f k (Reply p o m s) it = reply_redone f k p o m s it
  phrase_redone f k (Timeout p e m s) it = timeout_redone f k p e m s it.0 it.1
  phrase_redone f k (Complete p s) it = record { shown = λ room. refl; fits = tt; same = refl; kept = λ room all. all }
  phrase_redone f k (Refuse p r q x e s) it = refuse_redone f k p r q x e s it
  phrase_redone f k (If p e b o) it =
      let test = expr_redone f (suc k) e it.0 in
      let here = after_expr (suc k) e in
      let taken = braces_redone f here b it.1 in
      let other = otherwise_redone f (past here (printed.block b)) o it.2 in
      record {
        shown = λ room. shown_more f k (key k'.If) (shown_join f (suc k) (expression room (again f (suc k) 5 e)) (spelled.block room (braces_again f here b) ++ spelled.alternative room (otherwise_again f (past here (printed.block b)) o))
            (expr 5 e) (printed.block b ++ printed.alternative o) (test.shown room) (shown_join f here (spelled.block room (braces_again f here b)) (spelled.alternative room (otherwise_again f (past here (printed.block b)) o)) (printed.block b) (printed.alternative o) (taken.shown room) (other.shown room)));
        fits = (test.fits, taken.fits, other.fits);
        same = ap (λ t. If 0 t (bare.braces (braces_again f here b)) (bare.otherwise (otherwise_again f (past here (printed.block b)) o))) test.same ∙ ap (λ t. If 0 (bare.term e) t (bare.otherwise (otherwise_again f (past here (printed.block b)) o))) taken.same ∙ ap (λ t. If 0 (bare.term e) (bare.braces b) t) other.same;
        kept = λ room all. (
            let back = kept_back (expression room e) (spelled.block room b ++ spelled.alternative room o) all.1 in
            (all.0, kept_join (expression room (again f (suc k) 5 e)) _ (test.kept room (kept_front (expression room e) _ all.1)) (kept_join (spelled.block room (braces_again f here b)) _ (taken.kept room (kept_front (spelled.block room b) (spelled.alternative room o) back)) (other.kept room (kept_back (spelled.block room b) (spelled.alternative room o) back)))));
      }

  phrases_redone : (f : ℕ → ℕ) (k : ℕ) (xs : Phrases) → AreStatements xs → Redone f k spelled.statements (printed.statements xs) AreStatements bare.phrases xs (phrases_again f k xs)
  phrases_redone f k Nil it = record { shown = λ room. refl; fits = tt; same = refl; kept = λ room all. tt }
  phrases_redone f k (Then x xs) it =
      let first = phrase_redone f k x it.0 in
      let rest = phrases_redone f (past k (printed.statement x)) xs it.1 in
      record {
        shown = λ room. shown_join f k (spelled.statement room (phrase_again f k x)) (spelled.statements room (phrases_again f (past k (printed.statement x)) xs)) (printed.statement x) (printed.statements xs) (first.shown room) (rest.shown room);
        fits = (first.fits, rest.fits);
        same = ap (λ t. Then t (bare.phrases (phrases_again f (past k (printed.statement x)) xs))) first.same ∙ ap (λ t. Then (bare.phrase x) t) rest.same;
        kept = λ room all. kept_join (spelled.statement room (phrase_again f k x)) _ (first.kept room (kept_front (spelled.statement room x) (spelled.statements room xs) all)) (rest.kept room (kept_back (spelled.statement room x) (spelled.statements room xs) all));
      }

  pub braces_redone : (f : ℕ → ℕ) (k : ℕ) (b : Braces) → IsBlock b → Redone f k spelled.block (printed.block b) IsBlock bare.braces b (braces_again f k b)
  braces_redone f k (Brace o b q) it =
      let body = phrases_redone f (suc k) b it in
      record {
        shown = λ room. shown_more f k (c.Symbol sym'.OpenBrace) (shown_join f (suc k) (spelled.statements (one_less room) (phrases_again f (suc k) b)) (spelled.symbol sym'.CloseBrace (f (past (suc k) (printed.statements b))) ∷ []) (printed.statements b) (c.Symbol sym'.CloseBrace ∷ []) (body.shown (one_less room)) refl);
        fits = body.fits;
        same = ap (λ t. Brace 0 t 0) body.same;
        kept = λ room all. (all.0, kept_join (spelled.statements (one_less room) (phrases_again f (suc k) b)) _ (body.kept (one_less room) (kept_front (spelled.statements (one_less room) b) _ all.1)) ((refl, tt), tt));
      }

  pub otherwise_redone : (f : ℕ → ℕ) (k : ℕ) (o : Otherwise) → IsAlternative o → Redone f k spelled.alternative (printed.alternative o) IsAlternative bare.otherwise o (otherwise_again f k o)
  otherwise_redone f k Nothing it = record { shown = λ room. refl; fits = tt; same = refl; kept = λ room all. tt }
  otherwise_redone f k (Last p b) it =
      let body = braces_redone f (suc k) b it in
      record {
        shown = λ room. shown_more f k (key k'.Else) (body.shown room);
        fits = body.fits;
        same = ap (λ t. Last 0 t) body.same;
        kept = λ room all. (all.0, body.kept room all.1);
      }
  otherwise_redone f k (Chain p q e b o) it =
      let test = expr_redone f (suc (suc k)) e it.0 in
      let here = after_expr (suc (suc k)) e in
      let taken = braces_redone f here b it.1 in
      let other = otherwise_redone f (past here (printed.block b)) o it.2 in
      record {
        shown = λ room. shown_more f k (key k'.Else) (shown_more f (suc k) (key k'.If) (shown_join f (suc (suc k)) (expression (one_less room) (again f (suc (suc k)) 5 e)) (spelled.block (one_less room) (braces_again f here b) ++ spelled.alternative (one_less room) (otherwise_again f (past here (printed.block b)) o))
            (expr 5 e) (printed.block b ++ printed.alternative o) (test.shown (one_less room)) (shown_join f here (spelled.block (one_less room) (braces_again f here b)) (spelled.alternative (one_less room) (otherwise_again f (past here (printed.block b)) o)) (printed.block b) (printed.alternative o) (taken.shown (one_less room)) (other.shown (one_less room)))));
        fits = (test.fits, taken.fits, other.fits);
        same = ap (λ t. Chain 0 0 t (bare.braces (braces_again f here b)) (bare.otherwise (otherwise_again f (past here (printed.block b)) o))) test.same ∙ ap (λ t. Chain 0 0 (bare.term e) t (bare.otherwise (otherwise_again f (past here (printed.block b)) o))) taken.same ∙ ap (λ t. Chain 0 0 (bare.term e) (bare.braces b) t) other.same;
        kept = λ room all. (
            let back = kept_back (expression (one_less room) e) (spelled.block (one_less room) b ++ spelled.alternative (one_less room) o) all.1.1 in
            (all.0, (all.1.0, kept_join (expression (one_less room) (again f (suc (suc k)) 5 e)) _ (test.kept (one_less room) (kept_front (expression (one_less room) e) _ all.1.1)) (kept_join (spelled.block (one_less room) (braces_again f here b)) _ (taken.kept (one_less room) (kept_front (spelled.block (one_less room) b) (spelled.alternative (one_less room) o) back)) (other.kept (one_less room) (kept_back (spelled.block (one_less room) b) (spelled.alternative (one_less room) o) back))))));
      }
