-- The places of sagas under their ids, before and after a commit.
use Rattle.std.specs.Prelude.{◌≡◌, ◌≢◌, ◌⊎◌, ℕ, ◌+◌, ◌≤◌, List, [], ◌∷◌, ◌++◌, take, length, slice_get, fold, Option, Some, None, refl, option_to_list}
use Rattle.std.proofs.Common.{◌∙◌, ap, sym, subst, inl, inr, append_assoc, append-nil}
use Rattle.std.specs.FinMap as map
use Rattle.std.proofs.lemmas.List.{take_all}
use Rattle.nb_base.proofs.ListLaws.{take_next}
use Rattle.nb_base.proofs.Maps.{names, same_or_other, at_same, at_other, gone, kept}
use Rattle.nb_base.specs.Meanings.{saga_at}
use Rattle.nb_base.specs.Orders.{ByName, BySaga}
use Rattle.nb_base.specs.Shown.{Stored}
use Rattle.nb_base.specs.declared.saga_key.SagaKey.{SagaKey}
use Rattle.nb_base.specs.declared.saga_row.SagaRow.{SagaRow}
use Rattle.nb_saga_store.specs.Writes.{with_written}
use Rattle.nb_saga_store.specs.declared.written.Written.{Written}
use Rattle.nb_saga_store.specs.declared.written.Written.TheVariants.{Saga, SagaGone, Row, RowGone}
use Rattle.nb_store.specs.Batches.{Among, saga_there, saga_found, found_at, place_of, content_of, AreApart, MakesRoom, link_of, links_of, id_in, ids_at, touched_ids, linked, HasLink, HaveLinks, IsNewLink, AreWiderIds, HasId, AreSwept}
use Rattle.nb_store.specs.Kept.{IsIndex}
use Rattle.nb_store.specs.declared.batch.Link.{Link}
use Rattle.nb_store.proofs.BatchLaws.{clash, among_at, among_left, among_right, among_next, all_next, all_weaker, IsCovered, cover_cases, touched, untouched, saga_back, nothing_left}

inside : {A : Type 0} (x y : A) → Some x ≡ Some y → x ≡ y
inside x y e = cc

-- ---- one write after the other

links_append : (xs ys : List Written) → links_of (xs ++ ys) ≡ links_of xs ++ links_of ys
links_append [] ys = refl
links_append (x ∷ xs) ys = ap (λ (ls : List Link). option_to_list (link_of x) ++ ls) (links_append xs ys) ∙ sym (append_assoc (option_to_list (link_of x)) (links_of xs) (links_of ys))

pub links_next : (ws : List Written) (i : ℕ) (w : Written) (ls : List Link) → slice_get ws i ≡ Some w → ls ≡ links_of (take i ws) → ls ++ option_to_list (link_of w) ≡ links_of (take (i + 1) ws)
links_next ws i w ls at so_far =
    ap (λ (xs : List Link). xs ++ option_to_list (link_of w)) so_far ∙ ap (λ (xs : List Link). links_of (take i ws) ++ xs) (sym (append-nil (option_to_list (link_of w))))
    ∙ sym (links_append (take i ws) (w ∷ [])) ∙ ap links_of (sym (take_next ws i w at))

pub links_end : (ws : List Written) (i : ℕ) (ls : List Link) → length ws ≤ i → ls ≡ links_of (take i ws) → ls ≡ links_of ws
links_end ws i ls end so_far = so_far ∙ ap links_of (take_all i ws end)

ids_append : (s : BySaga SagaRow) (xs ys : List Written) → touched_ids s (xs ++ ys) ≡ touched_ids s xs ++ touched_ids s ys
ids_append s [] ys = refl
ids_append s (x ∷ xs) ys = ap (λ (ls : List (List ℕ)). ids_at s x ++ ls) (ids_append s xs ys) ∙ sym (append_assoc (ids_at s x) (touched_ids s xs) (touched_ids s ys))

pub ids_next : (s : BySaga SagaRow) (ws : List Written) (i : ℕ) (w : Written) (ls : List (List ℕ)) → slice_get ws i ≡ Some w → ls ≡ touched_ids s (take i ws) → ls ++ ids_at s w ≡ touched_ids s (take (i + 1) ws)
ids_next s ws i w ls at so_far =
    ap (λ (xs : List (List ℕ)). xs ++ ids_at s w) so_far ∙ ap (λ (xs : List (List ℕ)). touched_ids s (take i ws) ++ xs) (sym (append-nil (ids_at s w)))
    ∙ sym (ids_append s (take i ws) (w ∷ [])) ∙ ap (touched_ids s) (sym (take_next ws i w at))

pub ids_end : (s : BySaga SagaRow) (ws : List Written) (i : ℕ) (ls : List (List ℕ)) → length ws ≤ i → ls ≡ touched_ids s (take i ws) → ls ≡ touched_ids s ws
ids_end s ws i ls end so_far = so_far ∙ ap (touched_ids s) (take_all i ws end)

-- ---- room for links

pub record IsLinking (ls : List Link) (i : ℕ) (ids now : ByName SagaKey) : Type 0 where
  pub wider : AreWiderIds ls ids now
  pub there : HaveLinks now (take i ls)

pub linking_start : (ls : List Link) (ids : ByName SagaKey) → IsLinking ls 0 ids ids
linking_start ls ids = record { wider = λ id. inl refl; there = tt }

pub wider_ids_next : (ls : List Link) (ids now new : ByName SagaKey) (l : Link) → Among l ls → AreWiderIds ls ids now → MakesRoom now l.id l.place new → AreWiderIds ls ids new
wider_ids_next ls ids now new l among wider (inl e) id = subst (λ m. (map.get m id ≡ map.get ids id) ⊎ IsNewLink ls ids m id) (sym e) (wider id)
wider_ids_next ls ids now new l among wider (inr (none, e)) id = go (same_or_other names id l.id) (wider id)
  where
    go : (id ≡ l.id) ⊎ (id ≢ l.id) → (map.get now id ≡ map.get ids id) ⊎ IsNewLink ls ids now id → (map.get new id ≡ map.get ids id) ⊎ IsNewLink ls ids new id
    go (inl same) (inl stays) = inr (record { link = l; among = among; id_is = sym same; before = sym stays ∙ ap (map.get now) same ∙ none })
    go (inl same) (inr new) = inr (record { link = l; among = among; id_is = sym same; before = new.before })
    go (inr other) (inl stays) = inl (ap (λ m. map.get m id) e ∙ at_other names now l.id l.place id other ∙ stays)
    go (inr other) (inr new) = inr (record { link = new.link; among = new.among; id_is = new.id_is; before = new.before })

link_stays : (now new : ByName SagaKey) (l m : Link) → MakesRoom now l.id l.place new → HasLink now m → HasLink new m
link_stays now new l m (inl e) has = λ none. has (ap (λ z. map.get z m.id) (sym e) ∙ none)
link_stays now new l m (inr (none, e)) has =
    let other : m.id ≢ l.id = λ same. has (ap (map.get now) same ∙ none) in
    λ gone. has (sym (at_other names now l.id l.place m.id other) ∙ ap (λ z. map.get z m.id) (sym e) ∙ gone)

pub linking_next : (ls : List Link) (i : ℕ) (ids now new : ByName SagaKey) (l : Link) → slice_get ls i ≡ Some l → IsLinking ls i ids now → MakesRoom now l.id l.place new → HasLink new l → IsLinking ls (i + 1) ids new
linking_next ls i ids now new l at so_far room there = record {
  wider = wider_ids_next ls ids now new l (among_at ls i l at) so_far.wider room;
  there = all_next (HasLink new) ls i l at (all_weaker (HasLink now) (HasLink new) (take i ls) (λ m. link_stays now new l m room) so_far.there) there;
}

-- ---- links that have room

pub record IsPutting (ls rest : List Link) (ids now : ByName SagaKey) : Type 0 where
  pub put : fold linked now rest ≡ fold linked ids ls
  pub there : HaveLinks now rest

pub putting_start : (ls rest : List Link) (ids : ByName SagaKey) → rest ≡ ls → HaveLinks ids ls → IsPutting ls rest ids ids
putting_start ls rest ids same there = subst (λ xs. IsPutting ls xs ids ids) (sym same) (record { put = refl; there = there })

has_after : (ids : ByName SagaKey) (l m : Link) → HasLink ids m → HasLink (linked ids l) m
has_after ids l m has none = go (same_or_other names m.id l.id)
  where
    go : (m.id ≡ l.id) ⊎ (m.id ≢ l.id) → ⊥
    go (inl same) = clash l.place (sym (at_same names ids l.id l.place) ∙ ap (map.get (linked ids l)) (sym same) ∙ none)
    go (inr other) = has (sym (at_other names ids l.id l.place m.id other) ∙ none)

pub putting_next : (ls rest more : List Link) (ids now new : ByName SagaKey) (l : Link) → rest ≡ l ∷ more → IsPutting ls rest ids now → new ≡ linked now l → IsPutting ls more ids new
putting_next ls rest more ids now new l same so_far put = subst (IsPutting ls more ids) (sym put) (go (subst (λ xs. IsPutting ls xs ids now) same so_far))
  where
    go : IsPutting ls (l ∷ more) ids now → IsPutting ls more ids (linked now l)
    go p = record { put = p.put; there = all_weaker (HasLink now) (HasLink (linked now l)) more (has_after now l) p.there.1 }

pub putting_room : (ls rest more : List Link) (ids now : ByName SagaKey) (l : Link) → rest ≡ l ∷ more → IsPutting ls rest ids now → HasLink now l
putting_room ls rest more ids now l same so_far = (subst (HaveLinks now) same so_far.there).0

pub putting_end : (ls rest : List Link) (ids now : ByName SagaKey) → length rest ≡ 0 → IsPutting ls rest ids now → now ≡ fold linked ids ls
putting_end ls rest ids now end so_far = (subst (λ xs. IsPutting ls xs ids now) (nothing_left rest end) so_far).put

-- ---- ids that are swept

pub swept_start : (s : BySaga SagaRow) (ns : List (List ℕ)) (ids : ByName SagaKey) → AreSwept s (take 0 ns) ids ids
swept_start s ns ids = record { less = λ id place at. at; kept = λ id place at has. at; clean = λ id place a at. absurd a }

pub swept_gone : (s : BySaga SagaRow) (ns : List (List ℕ)) (i : ℕ) (ids now new : ByName SagaKey) (n : List ℕ) → slice_get ns i ≡ Some n → AreSwept s (take i ns) ids now
    → ((place : SagaKey) → map.get now n ≡ Some place → HasId s place n → ⊥) → new ≡ map.remove now n → AreSwept s (take (i + 1) ns) ids new
swept_gone s ns i ids now new n at so_far stale e = subst (AreSwept s (take (i + 1) ns) ids) (sym e) (record {
  less = λ id place there. so_far.less id place (still id place there (same_or_other names id n));
  kept = λ id place there has. stays id place (so_far.kept id place there has) has (same_or_other names id n);
  clean = λ id place a there. clean id place there (same_or_other names id n) (among_next ns i id n at a);
})
  where
    never : (id : List ℕ) (place : SagaKey) → id ≡ n → map.get (map.remove now n) id ≡ Some place → ⊥
    never id place same there = clash place (sym there ∙ ap (map.get (map.remove now n)) same ∙ gone names now n)

    still : (id : List ℕ) (place : SagaKey) → map.get (map.remove now n) id ≡ Some place → (id ≡ n) ⊎ (id ≢ n) → map.get now id ≡ Some place
    still id place there (inl same) = absurd (never id place same there)
    still id place there (inr other) = sym (kept names now n id other) ∙ there

    stays : (id : List ℕ) (place : SagaKey) → map.get now id ≡ Some place → HasId s place id → (id ≡ n) ⊎ (id ≢ n) → map.get (map.remove now n) id ≡ Some place
    stays id place there has (inl same) = absurd (stale place (ap (map.get now) (sym same) ∙ there) (subst (HasId s place) same has))
    stays id place there has (inr other) = kept names now n id other ∙ there

    clean : (id : List ℕ) (place : SagaKey) → map.get (map.remove now n) id ≡ Some place → (id ≡ n) ⊎ (id ≢ n) → Among id (take i ns) ⊎ (id ≡ n) → HasId s place id
    clean id place there (inl same) a = absurd (never id place same there)
    clean id place there (inr other) (inl a) = so_far.clean id place a (still id place there (inr other))
    clean id place there (inr other) (inr same) = absurd (other same)

pub swept_stays : (s : BySaga SagaRow) (ns : List (List ℕ)) (i : ℕ) (ids now : ByName SagaKey) (n : List ℕ) → slice_get ns i ≡ Some n → AreSwept s (take i ns) ids now
    → ((place : SagaKey) → map.get now n ≡ Some place → HasId s place n) → AreSwept s (take (i + 1) ns) ids now
swept_stays s ns i ids now n at so_far fresh = record {
  less = so_far.less;
  kept = so_far.kept;
  clean = λ id place a there. clean id place there (among_next ns i id n at a);
}
  where
    clean : (id : List ℕ) (place : SagaKey) → map.get now id ≡ Some place → Among id (take i ns) ⊎ (id ≡ n) → HasId s place id
    clean id place there (inl a) = so_far.clean id place a there
    clean id place there (inr same) = subst (HasId s place) (sym same) (fresh place (ap (map.get now) (sym same) ∙ there))

pub swept_end : (s : BySaga SagaRow) (ns : List (List ℕ)) (i : ℕ) (ids now : ByName SagaKey) → length ns ≤ i → AreSwept s (take i ns) ids now → AreSwept s ns ids now
swept_end s ns i ids now end so_far = subst (λ xs. AreSwept s xs ids now) (take_all i ns end) so_far

-- ---- the index after a commit

-- what stands under an id once places were put
pub data LinkedAt (ls : List Link) (ids : ByName SagaKey) (id : List ℕ) : Type 0 where
  as_before : map.get (fold linked ids ls) id ≡ map.get ids id → ((l : Link) → Among l ls → l.id ≢ id) → LinkedAt ls ids id
  by_link : (l : Link) → Among l ls → l.id ≡ id → map.get (fold linked ids ls) id ≡ Some l.place → LinkedAt ls ids id

linked_at : (ls : List Link) (ids : ByName SagaKey) (id : List ℕ) → LinkedAt ls ids id
linked_at [] ids id = as_before refl (λ l a. absurd a)
linked_at (l ∷ ls) ids id = go (linked_at ls (linked ids l) id) (same_or_other names id l.id)
  where
    go : LinkedAt ls (linked ids l) id → (id ≡ l.id) ⊎ (id ≢ l.id) → LinkedAt (l ∷ ls) ids id
    go (by_link m a is at) c = by_link m (inr a) is at
    go (as_before at free) (inl same) = by_link l (inl refl) (sym same) (at ∙ ap (map.get (linked ids l)) same ∙ at_same names ids l.id l.place)
    go (as_before at free) (inr other) = as_before (at ∙ at_other names ids l.id l.place id other) not
      where
        not : (m : Link) → Among m (l ∷ ls) → m.id ≢ id
        not m (inl e) is = other (sym is ∙ ap (λ (x : Link). x.id) e)
        not m (inr a) is = free m a is

-- the write that a link is of
pub record IsPut (ws : List Written) (l : Link) : Type 0 where
  pub row : SagaRow
  pub among : Among (Saga l.place row) ws
  pub id_is : row.id ≡ l.id

link_put : (ws : List Written) (l : Link) → Among l (links_of ws) → IsPut ws l
link_put [] l a = absurd a
link_put (Saga place row ∷ ws) l (inl e) = record {
  row = row;
  among = inl (ap (λ p. Saga p row) (ap (λ (x : Link). x.place) e));
  id_is = ap (λ (x : Link). x.id) (sym e);
}
link_put (Saga place row ∷ ws) l (inr a) = let p = link_put ws l a in record { row = p.row; among = inr p.among; id_is = p.id_is }
link_put (SagaGone place ∷ ws) l a = let p = link_put ws l a in record { row = p.row; among = inr p.among; id_is = p.id_is }
link_put (Row name row ∷ ws) l a = let p = link_put ws l a in record { row = p.row; among = inr p.among; id_is = p.id_is }
link_put (RowGone name ∷ ws) l a = let p = link_put ws l a in record { row = p.row; among = inr p.among; id_is = p.id_is }

put_linked : (ws : List Written) (place : SagaKey) (row : SagaRow) → Among (Saga place row) ws → Among (record { id = row.id; place = place }) (links_of ws)
put_linked [] place row a = absurd a
put_linked (w ∷ ws) place row (inl e) =
    subst (λ x. Among (record { id = row.id; place = place }) (option_to_list (link_of x) ++ links_of ws)) e (inl refl)
put_linked (w ∷ ws) place row (inr a) = among_right _ (option_to_list (link_of w)) (links_of ws) (put_linked ws place row a)

named_new : (s : BySaga SagaRow) (ws : List Written) (place : SagaKey) (row : SagaRow) → Among (Saga place row) ws → Among row.id (touched_ids s ws)
named_new s [] place row a = absurd a
named_new s (w ∷ ws) place row (inl e) =
    subst (λ x. Among row.id (ids_at s x ++ touched_ids s ws)) e
    (among_left row.id (id_in (map.get s place) ++ row.id ∷ []) (touched_ids s ws) (among_right row.id (id_in (map.get s place)) (row.id ∷ []) (inl refl)))
named_new s (w ∷ ws) place row (inr a) = among_right row.id (ids_at s w) (touched_ids s ws) (named_new s ws place row a)

one_id : (o : Option SagaRow) (row : SagaRow) → o ≡ Some row → Among row.id (id_in o)
one_id o row e = subst (λ x. Among row.id (id_in x)) (sym e) (inl refl)

named_at : (s : BySaga SagaRow) (w : Written) (place : SagaKey) (row : SagaRow) → place_of w ≡ saga_at place → map.get s place ≡ Some row → Among row.id (ids_at s w)
named_at s (Saga p new) place row e at =
    let same : p ≡ place = cc in
    among_left row.id (id_in (map.get s p)) (new.id ∷ []) (one_id (map.get s p) row (ap (map.get s) same ∙ at))
named_at s (SagaGone p) place row e at = let same : p ≡ place = cc in one_id (map.get s p) row (ap (map.get s) same ∙ at)
named_at s (Row name new) place row e at = absurd cc
named_at s (RowGone name) place row e at = absurd cc

named_old : (s : BySaga SagaRow) (ws : List Written) (w : Written) (place : SagaKey) (row : SagaRow) → Among w ws → place_of w ≡ saga_at place → map.get s place ≡ Some row → Among row.id (touched_ids s ws)
named_old s [] w place row a e at = absurd a
named_old s (v ∷ ws) w place row (inl same) e at = among_left row.id (ids_at s v) (touched_ids s ws) (named_at s v place row (ap place_of (sym same) ∙ e) at)
named_old s (v ∷ ws) w place row (inr a) e at = among_right row.id (ids_at s v) (touched_ids s ws) (named_old s ws w place row a e at)

-- a write that leaves this saga at this place puts it there
puts : (w : Written) (place : SagaKey) (row : SagaRow) → place_of w ≡ saga_at place → content_of w ≡ Some (saga_there row) → w ≡ Saga place row
puts (Saga p new) place row e is = let same : p ≡ place = cc in let this : new ≡ row = cc in λ i. Saga (same i) (this i)
puts (SagaGone p) place row e is = absurd cc
puts (Row name new) place row e is = absurd cc
puts (RowGone name) place row e is = absurd cc

saga_is : (o : Option SagaRow) (row : SagaRow) → saga_found o ≡ Some (saga_there row) → o ≡ Some row
saga_is o row e = saga_back o (Some row) e

module _ (t : Stored) (ws : List Written) (apart : AreApart ws) where
  abbrev final : BySaga SagaRow
  final = (fold with_written t ws).sagas

  put_there : (place : SagaKey) (row : SagaRow) → Among (Saga place row) ws → map.get final place ≡ Some row
  put_there place row a = saga_is (map.get final place) row (touched ws t (Saga place row) apart a)

  stays_there : (place : SagaKey) → (IsCovered ws (saga_at place) → ⊥) → map.get final place ≡ map.get t.sagas place
  stays_there place free = saga_back (map.get final place) (map.get t.sagas place) (untouched ws t (saga_at place) free)

  -- each saga that is there was put there or stood there
  was_put : (place : SagaKey) (row : SagaRow) → map.get final place ≡ Some row → (c : IsCovered ws (saga_at place)) → Among (Saga place row) ws
  was_put place row at c =
      let left : content_of c.write ≡ found_at (fold with_written t ws) (saga_at place) = sym (touched ws t c.write apart c.among) ∙ ap (found_at (fold with_written t ws)) c.place in
      subst (λ w. Among w ws) (puts c.write place row c.place (left ∙ ap saga_found at)) c.among

  module _ (ids room now : ByName SagaKey) (index : IsIndex t.sagas ids) (wider : AreWiderIds (links_of ws) ids room)
      (unique : (p q : SagaKey) (a b : SagaRow) → map.get final p ≡ Some a → map.get final q ≡ Some b → a.id ≡ b.id → p ≡ q)
      (swept : AreSwept final (touched_ids t.sagas ws) (fold linked room (links_of ws)) now) where
    -- what a link put under the id of a saga is the place of the saga
    own_link : (place : SagaKey) (row : SagaRow) (l : Link) → map.get final place ≡ Some row → Among l (links_of ws) → l.id ≡ row.id → l.place ≡ place
    own_link place row l at a same = let p = link_put ws l a in unique l.place place p.row row (put_there l.place p.row p.among) at (p.id_is ∙ same)

    kept_room : (id : List ℕ) (place : SagaKey) → map.get ids id ≡ Some place → map.get room id ≡ Some place
    kept_room id place at = go (wider id)
      where
        go : (map.get room id ≡ map.get ids id) ⊎ IsNewLink (links_of ws) ids room id → map.get room id ≡ Some place
        go (inl e) = e ∙ at
        go (inr new) = absurd (clash place (sym at ∙ new.before))

    found_after : (place : SagaKey) (row : SagaRow) → map.get final place ≡ Some row → map.get now row.id ≡ Some place
    found_after place row at = swept.kept row.id place (under (linked_at (links_of ws) room row.id) (cover_cases ws (saga_at place))) (row, at, refl)
      where
        under : LinkedAt (links_of ws) room row.id → IsCovered ws (saga_at place) ⊎ (IsCovered ws (saga_at place) → ⊥) → map.get (fold linked room (links_of ws)) row.id ≡ Some place
        under (by_link l a is e) c = e ∙ ap Some (own_link place row l at a is)
        under (as_before e free) (inl c) = absurd (free (record { id = row.id; place = place }) (put_linked ws place row (was_put place row at c)) refl)
        under (as_before e free) (inr none) = e ∙ kept_room row.id place (index.found place row (sym (stays_there place none) ∙ at))

    only_after : (id : List ℕ) (place : SagaKey) → map.get now id ≡ Some place → HasId final place id
    only_after id place at = go (linked_at (links_of ws) room id)
      where
        old : map.get ids id ≡ Some place → HasId final place id
        old e =
            let o = index.only id place e in
            elim (cover_cases ws (saga_at place)) [
              | inl c ↦ swept.clean id place (subst (λ n. Among n (touched_ids t.sagas ws)) o.2 (named_old t.sagas ws c.write place o.0 c.among c.place o.1)) at
              | inr none ↦ (o.0, stays_there place none ∙ o.1, o.2)
            ]

        go : LinkedAt (links_of ws) room id → HasId final place id
        go (by_link l a is e) =
            let p = link_put ws l a in
            let same : l.place ≡ place = inside l.place place (sym e ∙ swept.less id place at) in
            (p.row, ap (map.get final) (sym same) ∙ put_there l.place p.row p.among, p.id_is ∙ is)
        go (as_before e free) = before (wider id)
          where
            before : (map.get room id ≡ map.get ids id) ⊎ IsNewLink (links_of ws) ids room id → HasId final place id
            before (inl same) = old (sym same ∙ sym e ∙ swept.less id place at)
            before (inr new) = absurd (free new.link new.among new.id_is)

    pub index_after : IsIndex final now
    index_after = record { found = found_after; only = only_after }

-- where nothing came of it, the places under the ids are those of before
module _ (sagas : BySaga SagaRow) (ws : List Written) (ids room now : ByName SagaKey) (index : IsIndex sagas ids) (wider : AreWiderIds (links_of ws) ids room)
    (swept : AreSwept sagas (touched_ids sagas ws) room now) where
  back_some : (id : List ℕ) (place : SagaKey) → map.get ids id ≡ Some place → map.get now id ≡ Some place
  back_some id place at = swept.kept id place (go (wider id)) (index.only id place at)
    where
      go : (map.get room id ≡ map.get ids id) ⊎ IsNewLink (links_of ws) ids room id → map.get room id ≡ Some place
      go (inl e) = e ∙ at
      go (inr new) = absurd (clash place (sym at ∙ new.before))

  back_none : (id : List ℕ) (place : SagaKey) → map.get ids id ≡ None → map.get now id ≡ Some place → ⊥
  back_none id place none at = go (wider id)
    where
      go : (map.get room id ≡ map.get ids id) ⊎ IsNewLink (links_of ws) ids room id → ⊥
      go (inl e) = clash place (sym (swept.less id place at) ∙ e ∙ none)
      go (inr new) =
          let p = link_put ws new.link new.among in
          let named : Among id (touched_ids sagas ws) = subst (λ n. Among n (touched_ids sagas ws)) (p.id_is ∙ new.id_is) (named_new sagas ws new.link.place p.row p.among) in
          let has = swept.clean id place named at in
          clash place (sym (index.found place has.0 has.1) ∙ ap (map.get ids) has.2 ∙ none)

  pub back_as_before : now ≡ ids
  back_as_before = map.same_map names.total names.same now ids (λ id. go id (map.get ids id) (map.get now id) refl refl)
    where
      go : (id : List ℕ) (o p : Option SagaKey) → map.get ids id ≡ o → map.get now id ≡ p → map.get now id ≡ map.get ids id
      go id (Some place) p is there = back_some id place is ∙ sym is
      go id None None is there = there ∙ sym is
      go id None (Some place) is there = absurd (back_none id place is there)
