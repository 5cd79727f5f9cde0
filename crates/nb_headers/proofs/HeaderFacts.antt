-- What a message still says after headers were set or taken out.
use Rattle.std.specs.Prelude.{◌≡◌, ℕ, List, [], ◌∷◌, Bool, true, false, ◌&&◌, not, bytes_eq, Some, cond, refl, nat_lt, length, unwrap_or}
use Rattle.std.proofs.Common.{◌∙◌, ap}
use Rattle.std.specs.List.{list_all}
use Rattle.std.specs.Option.{option_map_or}
use Rattle.nb_base.specs.Messages.{Message, Pairs, header, with_header, has_id, id_name}
use Rattle.nb_base.specs.MessagesLaws.{header-with_header}
use Rattle.nb_base.specs.declared.settings.Settings.{Settings}
use Rattle.nb_headers.specs.Faults.{with_headers, with_fault, fault_pairs}
use Rattle.nb_headers.specs.HeaderNames.{failed_q, time_of_failure, processing_endpoint, exception_type, exception_message}
use Rattle.nb_headers.specs.Moments.{moment_text}
use Rattle.nb_headers.specs.Reads.{id_of, failed_queue}

front : (a b : Bool) → a && b ≡ true → a ≡ true
front true b h = refl
front false b h = absurd (cc)

back : (a b : Bool) → a && b ≡ true → b ≡ true
back true b h = h
back false b h = absurd (cc)

off : (a : Bool) → not a ≡ true → a ≡ false
off true h = absurd (cc)
off false h = refl

-- a header of another name stays
pub header-with_headers : (hs ps : Pairs) (q : List ℕ) → list_all (λ p. not (bytes_eq q p.0)) ps ≡ true → header (with_headers hs ps) q ≡ header hs q
header-with_headers hs [] q other = refl
header-with_headers hs (p ∷ ps) q other =
    let apart : bytes_eq q p.0 ≡ false = off (bytes_eq q p.0) (front _ _ other) in
    header-with_headers (with_header hs p.0 p.1) ps q (back _ _ other) ∙ header-with_header hs p.0 p.1 q ∙ ap (λ b. cond b (Some p.1) (header hs q)) apart

-- ---- a fault

pub id-with_fault : (settings : Settings) (name text : List ℕ) (moment : ℕ) (m : Message) → id_of (with_fault settings name text moment m) ≡ id_of m
unfolding with_fault id_of
id-with_fault settings name text moment m =
    ap (λ o. unwrap_or o []) (header-with_headers m.headers (fault_pairs settings.endpoint (moment_text moment) name text) id_name refl)

pub has_id-with_fault : (settings : Settings) (name text : List ℕ) (moment : ℕ) (m : Message) → has_id (with_fault settings name text moment m).headers ≡ has_id m.headers
unfolding with_fault
has_id-with_fault settings name text moment m =
    ap (λ o. option_map_or (λ t. nat_lt 0 (length t)) o false) (header-with_headers m.headers (fault_pairs settings.endpoint (moment_text moment) name text) id_name refl)

pub failed_queue-with_fault : (settings : Settings) (name text : List ℕ) (moment : ℕ) (m : Message) → failed_queue (with_fault settings name text moment m) ≡ settings.endpoint
unfolding with_fault failed_queue
failed_queue-with_fault settings name text moment m =
    let rest : Pairs = (time_of_failure, moment_text moment) ∷ (processing_endpoint, settings.endpoint) ∷ (exception_type, name) ∷ (exception_message, text) ∷ [] in
    ap (λ o. unwrap_or o [])
    (header-with_headers (with_header m.headers failed_q settings.endpoint) rest failed_q refl ∙ header-with_header m.headers failed_q settings.endpoint failed_q)
