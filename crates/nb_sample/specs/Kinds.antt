-- The kinds of messages in the sample, with their types and bodies. Which one a message is, and what its body says, goes by
-- k, the sum of the seed and the message's number.
use Rattle.std.specs.Prelude.{ℕ, ◌-◌, ◌%◌, ◌==◌, List, ◌++◌, Bool, true, false, if◌then◌else◌, codes, decimal}
use Rattle.nb_sample.specs.declared.kind.Kind.{Kind}
use Rattle.nb_sample.specs.declared.kind.Kind.TheVariants.{Deposit, Open, Shut, Refuse, Flaky}

abbrev pub kind_of : ℕ → Kind
kind_of k =
    if k % 4 == 0 then Deposit
    else if k % 4 == 1 then Open
    else if k % 4 == 2 then Shut
    else if k % 100 == 99 then Refuse
    else Flaky

-- the message's type
abbrev pub type_name : Kind → List ℕ
type_name Deposit = codes "Deposit"
type_name Open = codes "Open"
type_name Shut = codes "Shut"
type_name Refuse = codes "Refuse"
type_name Flaky = codes "Flaky"

-- ---- bodies: compact JSON, the names in byte order

abbrev pub truth_text : Bool → List ℕ
truth_text true = codes "true"
truth_text false = codes "false"

-- the last digit of k, into the account of that digit
abbrev pub deposit_body : ℕ → List ℕ
deposit_body k = codes "{\"account\":\"a" ++ decimal (k % 10) ++ codes "\",\"amount\":" ++ decimal (k % 10) ++ codes "}"

-- the ticket of the last two digits of k
abbrev pub open_body : ℕ → List ℕ
open_body k = codes "{\"ticket\":\"t" ++ decimal (k % 100) ++ codes "\"}"

-- the ticket that the message before opens, and every second time for good
abbrev pub shut_body : ℕ → List ℕ
shut_body k = codes "{\"force\":" ++ truth_text (k % 8 == 2) ++ codes ",\"ticket\":\"t" ++ decimal ((k - 1) % 100) ++ codes "\"}"

abbrev pub body_of : Kind → ℕ → List ℕ
body_of Deposit k = deposit_body k
body_of Open k = open_body k
body_of Shut k = shut_body k
body_of Refuse k = codes "{}"
body_of Flaky k = codes "{}"
