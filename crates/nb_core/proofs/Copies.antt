-- What the copies of a message keep: its id, and the round and the queue that they are given.
use Rattle.std.proofs.Common.{◌≡◌, ◌≢◌, ◌<◌, ◌≤◌, ◌^◌, ℕ, Bool, true, false, true≢false, cond, Some, refl, sym, ap, ◌∙◌, subst, arith, List, []}
use Rattle.std.specs.Prelude.{◌&&◌, bytes_eq, nat_le, length, not, IsTrue, unwrap_or}
use Rattle.std.specs.Char.{is_ascii_digit}
use Rattle.std.specs.Fmt.{decimal}
use Rattle.std.specs.List.{list_all}
use Rattle.std.specs.Option.{option_map_or}
use Rattle.std.specs.Str.Parse.{digits_value}
use Rattle.std.proofs.lemmas.Bool.{le-leb, leb-true}
use Rattle.std.proofs.lemmas.Fmt.{decimal_is_IsNumeral, digits_decimal, length-decimal-le, decimal_nonempty}
use Rattle.std.proofs.lemmas.Slice.Eq.{bytes_eq-Decides}
use Rattle.nb_base.specs.Messages.{Message, Pairs, header, with_header, without_header, id_name, has_id}
use Rattle.nb_base.specs.MessagesLaws.{header-with_header, header-without_header}
use Rattle.nb_base.specs.SettingsRules.{is_endpoint, is_queue, are_routes, are_subscribers}
use Rattle.nb_base.specs.declared.settings.Settings.{Settings}
use Rattle.nb_headers.proofs.Digits.{own}
use Rattle.nb_headers.specs.Faults.{with_headers, with_fault, fault_pairs, stripped, without_headers, failure_names}
use Rattle.nb_headers.specs.HeaderNames.{failed_q, time_of_failure, processing_endpoint, exception_type, exception_message, retries, retries_timestamp}
use Rattle.nb_headers.specs.Moments.{moment_text}
use Rattle.nb_headers.specs.Reads.{id_of, failed_queue, round_of, round_in, is_round}
use Rattle.nb_recover.specs.Copies.{later_copy, error_copy}
use Rattle.nb_recover.specs.Fails.{name_of, text_of}
use Rattle.nb_recover.specs.declared.fail.Fail.{Fail}
use Rattle.nb_core.proofs.Firsts.{both_true, are_true}

-- a header of another name
set_other : (hs : Pairs) (n t q : List ℕ) → bytes_eq q n ≡ false → header (with_header hs n t) q ≡ header hs q
set_other hs n t q e = header-with_header hs n t q ∙ ap (λ b. cond b (Some t) (header hs q)) e

set_same : (hs : Pairs) (n t : List ℕ) → header (with_header hs n t) n ≡ Some t
set_same hs n t = header-with_header hs n t n ∙ ap (λ b. cond b (Some t) (header hs n)) ((bytes_eq-Decides n n).1 refl)

taken_other : (hs : Pairs) (n q : List ℕ) → bytes_eq q n ≡ false → header (without_header hs n) q ≡ header hs q
taken_other hs n q e = header-without_header hs n q (λ same. true≢false (sym ((bytes_eq-Decides q n).1 (sym same)) ∙ e))

later_header : (m : Message) (round moment : ℕ) (q : List ℕ) → bytes_eq q retries ≡ false → bytes_eq q retries_timestamp ≡ false → header (later_copy m round moment).headers q ≡ header m.headers q
unfolding later_copy
later_header m round moment q a b =
    set_other (with_header m.headers retries (decimal round)) retries_timestamp (moment_text moment) q b
    ∙ set_other m.headers retries (decimal round) q a

pub later_id : (m : Message) (round moment : ℕ) → id_of (later_copy m round moment) ≡ id_of m
unfolding id_of
later_id m round moment = ap (λ o. unwrap_or o []) (later_header m round moment id_name refl refl)

pub later_named : (m : Message) (round moment : ℕ) → has_id m.headers ≡ true → has_id (later_copy m round moment).headers ≡ true
later_named m round moment h = ap (λ o. option_map_or (λ t. Rattle.std.specs.Prelude.nat_lt 0 (length t)) o false) (later_header m round moment id_name refl refl) ∙ h

-- a round up to a thousand is read back
round_read : (r : ℕ) → r ≤ 1000 → round_in (decimal r) ≡ r
round_read r few =
    let small : r < 2 ^ 64 = omega arith in
    let four : r < 10 ^ 4 = omega arith in
    let value : digits_value 10 (decimal r) ≡ r = (decimal_is_IsNumeral r small).1 in
    let long : length (decimal r) ≤ 4 = length-decimal-le 4 r (omega arith) four small in
    let some : 1 ≤ length (decimal r) = decimal_nonempty r small in
    let digits : list_all is_ascii_digit (decimal r) ≡ true = digits_decimal own r small in
    let bound : digits_value 10 (decimal r) ≤ 1000 = subst (λ x. x ≤ 1000) (sym value) few in
    let test : is_round (decimal r) ≡ true =
    are_true _ _ (are_true _ _ (are_true _ _ (le-leb 1 (length (decimal r)) some) (le-leb (length (decimal r)) 4 long)) digits) (le-leb (digits_value 10 (decimal r)) 1000 bound) in
    ap (λ b. cond b (digits_value 10 (decimal r)) 0) test ∙ value

pub later_round : (m : Message) (round moment : ℕ) → round ≤ 1000 → round_of (later_copy m round moment) ≡ round
unfolding round_of later_copy
later_round m round moment few =
    ap (λ o. option_map_or round_in o 0)
    (set_other (with_header m.headers retries (decimal round)) retries_timestamp (moment_text moment) retries refl ∙ set_same m.headers retries (decimal round))
    ∙ round_read round few

fault_header : (settings : Settings) (name text : List ℕ) (moment : ℕ) (m : Message) (q : List ℕ)
    → bytes_eq q failed_q ≡ false → bytes_eq q time_of_failure ≡ false → bytes_eq q processing_endpoint ≡ false → bytes_eq q exception_type ≡ false → bytes_eq q exception_message ≡ false
    → header (with_headers m.headers (fault_pairs settings.endpoint (moment_text moment) name text)) q ≡ header m.headers q
fault_header settings name text moment m q a b c d e =
    let h1 = with_header m.headers failed_q settings.endpoint in
    let h2 = with_header h1 time_of_failure (moment_text moment) in
    let h3 = with_header h2 processing_endpoint settings.endpoint in
    let h4 = with_header h3 exception_type name in
    set_other h4 exception_message text q e ∙ set_other h3 exception_type name q d ∙ set_other h2 processing_endpoint settings.endpoint q c ∙ set_other h1 time_of_failure (moment_text moment) q b
    ∙ set_other m.headers failed_q settings.endpoint q a

pub error_id : (settings : Settings) (m : Message) (fail : Fail) (moment : ℕ) → id_of (error_copy settings m fail moment) ≡ id_of m
unfolding id_of error_copy with_fault
error_id settings m fail moment = ap (λ o. unwrap_or o []) (fault_header settings (name_of fail) (text_of fail) moment m id_name refl refl refl refl refl)

pub error_named : (settings : Settings) (m : Message) (fail : Fail) (moment : ℕ) → has_id m.headers ≡ true → has_id (error_copy settings m fail moment).headers ≡ true
unfolding error_copy with_fault
error_named settings m fail moment h =
    ap (λ o. option_map_or (λ t. Rattle.std.specs.Prelude.nat_lt 0 (length t)) o false) (fault_header settings (name_of fail) (text_of fail) moment m id_name refl refl refl refl refl) ∙ h

pub error_from : (settings : Settings) (m : Message) (fail : Fail) (moment : ℕ) → failed_queue (error_copy settings m fail moment) ≡ settings.endpoint
unfolding failed_queue error_copy with_fault
error_from settings m fail moment =
    let name = name_of fail in
    let text = text_of fail in
    let h1 = with_header m.headers failed_q settings.endpoint in
    let h2 = with_header h1 time_of_failure (moment_text moment) in
    let h3 = with_header h2 processing_endpoint settings.endpoint in
    let h4 = with_header h3 exception_type name in
    ap (λ o. unwrap_or o [])
    (set_other h4 exception_message text failed_q refl ∙ set_other h3 exception_type name failed_q refl ∙ set_other h2 processing_endpoint settings.endpoint failed_q refl ∙ set_other h1 time_of_failure (moment_text moment) failed_q refl
    ∙ set_same m.headers failed_q settings.endpoint)

taken_header : (m : Message) → header (without_headers m.headers failure_names) id_name ≡ header m.headers id_name
taken_header m =
    let h1 = without_header m.headers failed_q in
    let h2 = without_header h1 time_of_failure in
    let h3 = without_header h2 processing_endpoint in
    let h4 = without_header h3 exception_type in
    let h5 = without_header h4 exception_message in
    let h6 = without_header h5 retries in
    taken_other h6 retries_timestamp id_name refl ∙ taken_other h5 retries id_name refl ∙ taken_other h4 exception_message id_name refl ∙ taken_other h3 exception_type id_name refl
    ∙ taken_other h2 processing_endpoint id_name refl ∙ taken_other h1 time_of_failure id_name refl ∙ taken_other m.headers failed_q id_name refl

pub stripped_id : (m : Message) → id_of (stripped m) ≡ id_of m
unfolding id_of stripped
stripped_id m = ap (λ o. unwrap_or o []) (taken_header m)

pub stripped_named : (m : Message) → has_id m.headers ≡ true → has_id (stripped m).headers ≡ true
unfolding stripped
stripped_named m h = ap (λ o. option_map_or (λ t. Rattle.std.specs.Prelude.nat_lt 0 (length t)) o false) (taken_header m) ∙ h

-- ---- settings

is_false : (b : Bool) → not b ≡ true → b ≡ false
is_false true e = absurd (true≢false (sym e))
is_false false e = refl

-- the tests that settings pass
pub record Ranges (s : Settings) : Type 0 where
  pub endpoint : is_endpoint s.endpoint ≡ true
  pub error : is_queue s.error ≡ true
  pub apart : not (bytes_eq s.error s.endpoint) ≡ true
  pub immediate : nat_le s.immediate 1000 ≡ true
  pub delayed : nat_le s.delayed 1000 ≡ true
  pub routes : are_routes s.routes ≡ true
  pub subscribers : are_subscribers s.subscribers ≡ true

pub ranges : (s : Settings) → Ranges s
ranges s =
    let h = s.sound in
    let a = both_true _ _ h in
    let b = both_true _ _ a.0 in
    let c = both_true _ _ b.0 in
    let d = both_true _ _ c.0 in
    let e = both_true _ _ d.0 in
    let f = both_true _ _ e.0 in
    let g = both_true _ _ f.0 in
    let i = both_true _ _ g.0 in
    let j = both_true _ _ i.0 in
    record { endpoint = j.0; error = j.1; apart = i.1; immediate = g.1; delayed = f.1; routes = c.1; subscribers = b.1 }

-- the error queue isn't the own one
pub error_apart : (s : Settings) → s.error ≢ s.endpoint
error_apart s same = true≢false (sym ((bytes_eq-Decides s.error s.endpoint).1 same) ∙ is_false _ (ranges s).apart)

pub delayed_few : (s : Settings) → s.delayed ≤ 1000
delayed_few s = leb-true s.delayed 1000 (ranges s).delayed

pub immediate_few : (s : Settings) → s.immediate ≤ 1000
immediate_few s = leb-true s.immediate 1000 (ranges s).immediate
