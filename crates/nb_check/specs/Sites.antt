-- Where the blocks of a script stand, and the numbers of those that are of a type.
use Rattle.std.specs.Prelude.{◌≡◌, ℕ, ◌+◌, List, [], ◌∷◌, ◌++◌, Bool, false, bytes_eq, Option, Some, None, slice_get, option_map, option_and_then}
use Rattle.std.specs.FinMap as map
use Rattle.nb_base.specs.Orders.{ByName}
use Rattle.nb_base.specs.declared.value.Key.{Key}
use Rattle.nb_script.specs.Grammar.{PartTerm, ByField, ById, ItemTerm, Message, Handler, Saga}
use Rattle.nb_check.specs.Blocks.{BlockTerm, handler_block, part_block}
use Rattle.nb_check.specs.Declarations.{type_text}
use Rattle.nb_check.specs.Keys.{block_keys}
use Rattle.nb_check.specs.Meets.{number_if, fits_role}
use Rattle.nb_check.specs.declared.incoming.Incoming.{Incoming}
use Rattle.nb_check.specs.declared.known.Known.{Known}
use Rattle.nb_check.specs.declared.sites.Site.{Site}

-- ---- where blocks stand

abbrev pub site : ℕ → ℕ → List ℕ → Site
site item part name = record { item = item; part = part; name = name }

abbrev pub part_type : PartTerm → List ℕ
part_type (ByField at f n q u field b) = type_text n
part_type (ById at a n b) = type_text n

-- those of the parts of the saga at this position, of which the first has this one
abbrev pub part_sites : ℕ → ℕ → List PartTerm → List Site
part_sites item part [] = []
part_sites item part (p ∷ ps) = site item part (part_type p) ∷ part_sites item (part + 1) ps

abbrev pub item_sites : ℕ → ItemTerm → List Site
item_sites item (Message at n o fs c) = []
item_sites item (Handler at n b) = site item 0 (type_text n) ∷ []
item_sites item (Saga s) = part_sites item 0 s.parts

-- those of items, of which the first has this position
abbrev pub sites_from : ℕ → List ItemTerm → List Site
sites_from item [] = []
sites_from item (i ∷ items) = item_sites item i ++ sites_from (item + 1) items

-- ---- the block that stands there

abbrev pub block_in : ℕ → Option ItemTerm → Option BlockTerm
block_in part None = None
block_in part (Some (Message at n o fs c)) = None
block_in part (Some (Handler at n b)) = Some (handler_block n b)
block_in part (Some (Saga s)) = option_map (part_block s.name) (slice_get s.parts part)

abbrev pub site_block : List ItemTerm → Site → Option BlockTerm
site_block items s = block_in s.part (slice_get items s.item)

abbrev pub block_at : List ItemTerm → Option Site → Option BlockTerm
block_at items o = option_and_then (site_block items) o

-- ---- the blocks of a type

-- the numbers of those that are of this type, of blocks whose numbers begin with this one
abbrev pub numbers_in : List ℕ → ℕ → List Site → List ℕ
numbers_in name n [] = []
numbers_in name n (s ∷ ss) = number_if (bytes_eq name s.name) n ++ numbers_in name (n + 1) ss

abbrev pub numbers_of : Option (List ℕ) → List ℕ
numbers_of None = []
numbers_of (Some ns) = ns

-- under each name the numbers of the blocks of this type
abbrev pub AreNumbers : ByName (List ℕ) → List Site → Type 0
AreNumbers named ss = (name : List ℕ) → numbers_of (map.get named name) ≡ numbers_in name 0 ss

-- ---- what a message has to do with a block of its type

abbrev pub fits_block : Incoming → Option BlockTerm → Bool
fits_block m None = false
fits_block m (Some b) = fits_role m b.role

-- of the numbers of blocks those that the message meets
abbrev pub fitting : Incoming → List BlockTerm → List ℕ → List ℕ
fitting m bs [] = []
fitting m bs (n ∷ ns) = number_if (fits_block m (slice_get bs n)) n ++ fitting m bs ns

abbrev pub keys_at : Incoming → Known → Option BlockTerm → List Key
keys_at m k None = []
keys_at m k (Some b) = block_keys m k b

-- the keys of the blocks with these numbers
abbrev pub numbers_keys : Incoming → Known → List BlockTerm → List ℕ → List Key
numbers_keys m k bs [] = []
numbers_keys m k bs (n ∷ ns) = keys_at m k (slice_get bs n) ++ numbers_keys m k bs ns
