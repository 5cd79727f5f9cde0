-- The sites of a script lead to its blocks, and the numbers of each type to those that a message meets.
use Rattle.std.proofs.Common.{◌≡◌, ℕ, suc, ◌+◌, List, [], ◌∷◌, ◌++◌, length, map, slice_get, Bool, true, false, ◌&&◌, Bor, Option, Some, None, option_map, option_and_then, cond, refl, sym, ap, ◌∙◌, arith, append_assoc, append-nil}
use Rattle.std.specs.FinMap as map
use Rattle.std.specs.FinMap.{get-remove}
use Rattle.std.specs.Cmp.Lexicographic.{nat_list_eq_equiv}
use Rattle.std.specs.Option.{option_copied}
use Rattle.std.specs.Slice.{IsItemAt}
use Rattle.std.specs.Str.{bytes_eq}
use Rattle.std.proofs.lemmas.Slice.Eq.{bytes_eq-Decides}
use Rattle.std.proofs.lemmas.List.{length-map}
use Rattle.std.proofs.lemmas.Option.{slice_get-map}
use Rattle.nb_base.specs.Orders.{ByName}
use Rattle.nb_base.specs.declared.value.Key.{Key}
use Rattle.nb_base.proofs.Maps.{names}
use Rattle.nb_script.specs.declared.item.Item.{Item}
use Rattle.nb_script.specs.declared.item.Item.TheVariants as i
use Rattle.nb_script.specs.declared.item.Part.{Part}
use Rattle.nb_script.specs.declared.item.Saga.{Saga as SagaTree}
use Rattle.nb_script.specs.Tree.{script, item, part}
use Rattle.nb_script.specs.Grammar.{PartTerm, ByField, ById, SagaTerm, ItemTerm, Message, Handler, Saga}
use Rattle.nb_check.specs.Blocks.{BlockTerm, part_block, part_blocks, item_blocks, blocks}
use Rattle.nb_check.specs.Keys.{block_keys, keys_if_met, met_keys}
use Rattle.nb_check.specs.Meets.{number_if, fits_role, is_met, met_from}
use Rattle.nb_check.specs.Sites.{site, part_type, part_sites, item_sites, sites_from, block_in, site_block, block_at, numbers_in, numbers_of, fits_block, fitting, keys_at, numbers_keys}
use Rattle.nb_check.specs.declared.incoming.Incoming.{Incoming}
use Rattle.nb_check.specs.declared.known.Known.{Known}
use Rattle.nb_check.specs.declared.sites.Site.{Site}
use Rattle.nb_check.proofs.Steps.{item_at}
use Rattle.nb_check.proofs.TableLaws.{inserted, same_name}

-- ---- what stands behind a front

pub at_seam : {A : Type 0} (front : List A) (x : A) (rest : List A) → slice_get (front ++ x ∷ rest) (length front) ≡ Some x
at_seam [] x rest = refl
at_seam (y ∷ front) x rest = at_seam front x rest

pub one_more : {A : Type 0} (front : List A) (x : A) → length (front ++ x ∷ []) ≡ length front + 1
one_more [] x = refl
one_more (y ∷ front) x = let e = one_more front x in omega (arith, e)

pub moved : {A : Type 0} (front : List A) (x : A) (rest : List A) → (front ++ x ∷ []) ++ rest ≡ front ++ x ∷ rest
moved front x rest = append_assoc front (x ∷ []) rest

map_behind : {A B : Type 0} (f : A → B) (xs ys : List A) → map f (xs ++ ys) ≡ map f xs ++ map f ys
map_behind f [] ys = refl
map_behind f (x ∷ xs) ys = ap (λ zs. f x ∷ zs) (map_behind f xs ys)

-- ---- sites lead to blocks

part_leads : (items : List ItemTerm) (k : ℕ) (s : SagaTerm) → slice_get items k ≡ Some (Saga s) → (front rest : List PartTerm) → s.parts ≡ front ++ rest
    → map (site_block items) (part_sites k (length front) rest) ≡ map Some (part_blocks s.name rest)
part_leads items k s here front [] split = refl
part_leads items k s here front (p ∷ ps) split =
    let first : site_block items (site k (length front) (part_type p)) ≡ Some (part_block s.name p) =
    ap (block_in (length front)) here ∙ ap (option_map (part_block s.name)) (ap (λ xs. slice_get xs (length front)) split ∙ at_seam front p ps) in
    let more = part_leads items k s here (front ++ p ∷ []) ps (split ∙ sym (moved front p ps)) in
    ap (λ b. b ∷ map (site_block items) (part_sites k (length front + 1) ps)) first
    ∙ ap (λ bs. Some (part_block s.name p) ∷ bs) (ap (λ n. map (site_block items) (part_sites k n ps)) (sym (one_more front p)) ∙ more)

item_leads : (items : List ItemTerm) (k : ℕ) (i : ItemTerm) → slice_get items k ≡ Some i → map (site_block items) (item_sites k i) ≡ map Some (item_blocks i)
item_leads items k (Message at n o fs c) here = refl
item_leads items k (Handler at n b) here = ap (λ o. block_in 0 o ∷ []) here
item_leads items k (Saga s) here = part_leads items k s here [] s.parts refl

leads : (items front rest : List ItemTerm) → items ≡ front ++ rest → map (site_block items) (sites_from (length front) rest) ≡ map Some (blocks rest)
leads items front [] split = refl
leads items front (i ∷ rest) split =
    let here : slice_get items (length front) ≡ Some i = ap (λ xs. slice_get xs (length front)) split ∙ at_seam front i rest in
    let more = leads items (front ++ i ∷ []) rest (split ∙ sym (moved front i rest)) in
    map_behind (site_block items) (item_sites (length front) i) (sites_from (length front + 1) rest)
    ∙ ap (λ bs. bs ++ map (site_block items) (sites_from (length front + 1) rest)) (item_leads items (length front) i here)
    ∙ ap (λ bs. map Some (item_blocks i) ++ bs) (ap (λ n. map (site_block items) (sites_from n rest)) (sym (one_more front i)) ∙ more)
    ∙ sym (map_behind Some (item_blocks i) (blocks rest))

joined : {A B : Type 0} (f : A → Option B) (o : Option A) (p : Option B) → option_map f o ≡ option_map Some p → option_and_then f o ≡ p
joined f None None h = refl
joined f None (Some y) h = absurd (cc)
joined f (Some x) None h = absurd (cc)
joined f (Some x) (Some y) h = cc

-- There are as many sites as blocks.
pub sites_count : (items : List ItemTerm) → length (sites_from 0 items) ≡ length (blocks items)
sites_count items = sym (length-map (sites_from 0 items) (site_block items)) ∙ ap length (leads items [] items refl) ∙ length-map (blocks items) Some

-- the block with a number is the one at the site with this number
pub site_leads : (items : List ItemTerm) (n : ℕ) → block_at items (slice_get (sites_from 0 items) n) ≡ slice_get (blocks items) n
site_leads items n =
    joined (site_block items) (slice_get (sites_from 0 items) n) (slice_get (blocks items) n)
    (sym (slice_get-map (site_block items) (sites_from 0 items) n) ∙ ap (λ bs. slice_get bs n) (leads items [] items refl) ∙ slice_get-map Some (blocks items) n)

-- ---- the numbers of a type

abbrev numbers_named : List ℕ → ℕ → List BlockTerm → List ℕ
numbers_named name n [] = []
numbers_named name n (b ∷ bs) = number_if (bytes_eq name b.name) n ++ numbers_named name (n + 1) bs

part_named : (saga : List ℕ) (p : PartTerm) → part_type p ≡ (part_block saga p).name
part_named saga (ByField at f n q u field b) = refl
part_named saga (ById at a n b) = refl

named_behind : (name : List ℕ) (n : ℕ) (ss ts : List Site) → numbers_in name n (ss ++ ts) ≡ numbers_in name n ss ++ numbers_in name (n + length ss) ts
named_behind name n [] ts = ap (λ k. numbers_in name k ts) (omega arith)
named_behind name n (s ∷ ss) ts =
    ap (λ ns. number_if (bytes_eq name s.name) n ++ ns) (named_behind name (n + 1) ss ts ∙ ap (λ k. numbers_in name (n + 1) ss ++ numbers_in name k ts) (omega arith))
    ∙ sym (append_assoc (number_if (bytes_eq name s.name) n) (numbers_in name (n + 1) ss) (numbers_in name (n + length (s ∷ ss)) ts))

blocks_behind : (name : List ℕ) (n : ℕ) (bs cs : List BlockTerm) → numbers_named name n (bs ++ cs) ≡ numbers_named name n bs ++ numbers_named name (n + length bs) cs
blocks_behind name n [] cs = ap (λ k. numbers_named name k cs) (omega arith)
blocks_behind name n (b ∷ bs) cs =
    ap (λ ns. number_if (bytes_eq name b.name) n ++ ns) (blocks_behind name (n + 1) bs cs ∙ ap (λ k. numbers_named name (n + 1) bs ++ numbers_named name k cs) (omega arith))
    ∙ sym (append_assoc (number_if (bytes_eq name b.name) n) (numbers_named name (n + 1) bs) (numbers_named name (n + length (b ∷ bs)) cs))

parts_alike : (name saga : List ℕ) (n k j : ℕ) (ps : List PartTerm) → numbers_in name n (part_sites k j ps) ≡ numbers_named name n (part_blocks saga ps)
parts_alike name saga n k j [] = refl
parts_alike name saga n k j (p ∷ ps) =
    ap (λ t. number_if (bytes_eq name t) n ++ numbers_in name (n + 1) (part_sites k (j + 1) ps)) (part_named saga p)
    ∙ ap (λ ns. number_if (bytes_eq name (part_block saga p).name) n ++ ns) (parts_alike name saga (n + 1) k (j + 1) ps)

parts_many : (saga : List ℕ) (k j : ℕ) (ps : List PartTerm) → length (part_sites k j ps) ≡ length (part_blocks saga ps)
parts_many saga k j [] = refl
parts_many saga k j (p ∷ ps) = ap suc (parts_many saga k (j + 1) ps)

item_alike : (name : List ℕ) (n k : ℕ) (i : ItemTerm) → numbers_in name n (item_sites k i) ≡ numbers_named name n (item_blocks i)
item_alike name n k (Message at m o fs c) = refl
item_alike name n k (Handler at m b) = refl
item_alike name n k (Saga s) = parts_alike name s.name n k 0 s.parts

item_many : (k : ℕ) (i : ItemTerm) → length (item_sites k i) ≡ length (item_blocks i)
item_many k (Message at m o fs c) = refl
item_many k (Handler at m b) = refl
item_many k (Saga s) = parts_many s.name k 0 s.parts

alike : (name : List ℕ) (n k : ℕ) (items : List ItemTerm) → numbers_in name n (sites_from k items) ≡ numbers_named name n (blocks items)
alike name n k [] = refl
alike name n k (i ∷ items) =
    named_behind name n (item_sites k i) (sites_from (k + 1) items)
    ∙ ap (λ ns. ns ++ numbers_in name (n + length (item_sites k i)) (sites_from (k + 1) items)) (item_alike name n k i)
    ∙ ap (λ j. numbers_named name n (item_blocks i) ++ numbers_in name (n + j) (sites_from (k + 1) items)) (item_many k i)
    ∙ ap (λ ns. numbers_named name n (item_blocks i) ++ ns) (alike name (n + length (item_blocks i)) (k + 1) items)
    ∙ sym (blocks_behind name n (item_blocks i) (blocks items))

-- ---- the blocks met

fits_next : (m : Incoming) (bs : List BlockTerm) (n : ℕ) (b : BlockTerm) (ns more : List ℕ) (h : Bool) → slice_get bs n ≡ Some b → fitting m bs ns ≡ more → fitting m bs (number_if h n ++ ns) ≡ number_if (h && fits_role m b.role) n ++ more
fits_next m bs n b ns more true here rest = ap (λ o. number_if (fits_block m o) n ++ fitting m bs ns) here ∙ ap (λ xs. number_if (fits_role m b.role) n ++ xs) rest
fits_next m bs n b ns more false here rest = rest

met_named : (m : Incoming) (front rest : List BlockTerm) → fitting m (front ++ rest) (numbers_named m.name (length front) rest) ≡ met_from m (length front) rest
met_named m front [] = refl
met_named m front (b ∷ bs) =
    let more = met_named m (front ++ b ∷ []) bs in
    let rest : fitting m (front ++ b ∷ bs) (numbers_named m.name (length front + 1) bs) ≡ met_from m (length front + 1) bs =
    ap (λ n. fitting m (front ++ b ∷ bs) (numbers_named m.name n bs)) (sym (one_more front b))
    ∙ ap (λ cs. fitting m cs (numbers_named m.name (length (front ++ b ∷ [])) bs)) (sym (moved front b bs)) ∙ more
    ∙ ap (λ n. met_from m n bs) (one_more front b) in
    fits_next m (front ++ b ∷ bs) (length front) b (numbers_named m.name (length front + 1) bs) (met_from m (length front + 1) bs) (bytes_eq m.name b.name) (at_seam front b bs) rest

-- of the numbers of its type a message meets those whose blocks it fits
pub met_of_type : (items : List ItemTerm) (m : Incoming) (ns : List ℕ) → ns ≡ numbers_in m.name 0 (sites_from 0 items) → fitting m (blocks items) ns ≡ met_from m 0 (blocks items)
met_of_type items m ns is = ap (fitting m (blocks items)) (is ∙ alike m.name 0 0 items) ∙ met_named m [] (blocks items)

-- ---- the keys of the blocks met

keys_next : (m : Incoming) (k : Known) (bs : List BlockTerm) (n : ℕ) (b : BlockTerm) (ns : List ℕ) (more : List Key) (h : Bool) → is_met m b ≡ h → slice_get bs n ≡ Some b → numbers_keys m k bs ns ≡ more
    → numbers_keys m k bs (number_if h n ++ ns) ≡ keys_if_met m k b ++ more
keys_next m k bs n b ns more true met here rest = ap (λ o. keys_at m k o ++ numbers_keys m k bs ns) here ∙ ap (λ xs. block_keys m k b ++ xs) rest ∙ sym (ap (λ t. cond t (block_keys m k b) [] ++ more) met)
keys_next m k bs n b ns more false met here rest = rest ∙ sym (ap (λ t. cond t (block_keys m k b) [] ++ more) met)

keys_from : (m : Incoming) (k : Known) (front rest : List BlockTerm) → numbers_keys m k (front ++ rest) (met_from m (length front) rest) ≡ met_keys m k rest
keys_from m k front [] = refl
keys_from m k front (b ∷ bs) =
    let rest : numbers_keys m k (front ++ b ∷ bs) (met_from m (length front + 1) bs) ≡ met_keys m k bs =
    ap (λ n. numbers_keys m k (front ++ b ∷ bs) (met_from m n bs)) (sym (one_more front b))
    ∙ ap (λ cs. numbers_keys m k cs (met_from m (length (front ++ b ∷ [])) bs)) (sym (moved front b bs)) ∙ keys_from m k (front ++ b ∷ []) bs in
    keys_next m k (front ++ b ∷ bs) (length front) b (met_from m (length front + 1) bs) (met_keys m k bs) (is_met m b) refl (at_seam front b bs) rest

-- the keys of the blocks with the numbers met are those of the blocks met
pub keys_met : (m : Incoming) (k : Known) (bs : List BlockTerm) → numbers_keys m k bs (met_from m 0 bs) ≡ met_keys m k bs
keys_met m k bs = keys_from m k [] bs

-- ---- a number more under a name

taken_out : (named : ByName (List ℕ)) (k q : List ℕ) → map.get (map.remove named k) q ≡ cond (bytes_eq k q) None (map.get named q)
taken_out named k q = get-remove names.total named k q ∙ ap (λ b. cond b None (map.get named q)) (same_name q k)

put_back : (named : ByName (List ℕ)) (k q : List ℕ) (number : ℕ) (b : Bool) → bytes_eq k q ≡ b
    → numbers_of (cond b (Some (numbers_of (map.get named k) ++ number ∷ [])) (cond b None (map.get named q))) ≡ numbers_of (map.get named q) ++ number_if b number
put_back named k q number true same = ap (λ j. numbers_of (map.get named j) ++ number ∷ []) ((bytes_eq-Decides k q).0 same)
put_back named k q number false same = sym (append-nil (numbers_of (map.get named q)))

number_put : (named : ByName (List ℕ)) (k q : List ℕ) (number : ℕ)
    → numbers_of (map.get (map.insert (map.remove named k) k (numbers_of (map.get named k) ++ number ∷ [])) q) ≡ numbers_of (map.get named q) ++ number_if (bytes_eq q k) number
number_put named k q number =
    let v = numbers_of (map.get named k) ++ number ∷ [] in
    ap numbers_of (inserted (map.remove named k) k v q ∙ ap (cond (bytes_eq k q) (Some v)) (taken_out named k q))
    ∙ put_back named k q number (bytes_eq k q) refl
    ∙ ap (λ b. numbers_of (map.get named q) ++ number_if b number) (nat_list_eq_equiv.symm k q)

-- the numbers under a name are taken out, get one more, and are put back
pub number_more : (old taken new : ByName (List ℕ)) (k j : List ℕ) (number : ℕ) (ns more : List ℕ) → taken ≡ map.remove old k → ns ≡ numbers_of (map.get old k) → more ≡ ns ++ number ∷ [] → j ≡ k → new ≡ map.insert taken j more
    → (q : List ℕ) → numbers_of (map.get new q) ≡ numbers_of (map.get old q) ++ number_if (bytes_eq q k) number
number_more old taken new k j number ns more out found pushed same put q =
    ap (λ m. numbers_of (map.get m q))
    (put ∙ ap (λ t. map.insert t j more) out ∙ ap (λ i. map.insert (map.remove old k) i more) same ∙ ap (map.insert (map.remove old k) k) (pushed ∙ ap (λ xs. xs ++ number ∷ []) found))
    ∙ number_put old k q number

-- ---- no block

pub no_keys : (m : Incoming) (k : Known) (ks : List Key) (o : Option BlockTerm) → o ≡ None → ks ≡ ks ++ keys_at m k o
no_keys m k ks o none = sym (ap (λ p. ks ++ keys_at m k p) none ∙ append-nil ks)

-- the block at a site, by what `get` lends of the items
pub block_here : (items : List Item) (s : Site) (r : Option (Bor Item)) → IsItemAt items s.item r → site_block (script items) s ≡ block_in s.part (option_map item (option_copied r))
block_here items s r h = ap (block_in s.part) (slice_get-map item items s.item ∙ ap (option_map item) (sym (item_at items s.item r h)))

pub no_part : (saga : SagaTree) (n : ℕ) (parts : List Part) (r : Option (Bor Part)) → parts ≡ saga.parts → IsItemAt parts n r → r ≡ None → block_in n (Some (item (i.Saga saga))) ≡ None
no_part saga n parts r same h none =
    ap (option_map (part_block saga.name)) (slice_get-map part saga.parts n ∙ ap (option_map part) (ap (λ ps. slice_get ps n) (sym same) ∙ sym (item_at parts n r h) ∙ ap option_copied none))

pub some_part : (saga : SagaTree) (n : ℕ) (parts : List Part) (r : Option (Bor Part)) (p : Bor Part) → parts ≡ saga.parts → IsItemAt parts n r → r ≡ Some p
    → block_in n (Some (item (i.Saga saga))) ≡ Some (part_block saga.name (part p.now))
some_part saga n parts r p same h some =
    ap (option_map (part_block saga.name)) (slice_get-map part saga.parts n ∙ ap (option_map part) (ap (λ ps. slice_get ps n) (sym same) ∙ sym (item_at parts n r h) ∙ ap option_copied some))
