-- A fault at a key is the first one where nothing is at fault before it.
use Rattle.std.proofs.Common.{◌≡◌, ℕ, List, [], ◌++◌}
use Rattle.toml.specs.Data.{Data}
use Rattle.nb_settings.specs.Faults.{endpoint_faults_at, error_faults_at, faults_of, outbox_faults_at, policy_faults_at, retry_faults_at, route_faults_at, subscriber_faults_at, unknown_faults}
use Rattle.nb_settings.specs.Files.{IsFirst}
use Rattle.nb_settings.specs.Unknown.{least, others_of}
use Rattle.nb_settings.specs.Values.{endpoint_at}
use Rattle.nb_settings.specs.declared.refusal.SettingsFault.{SettingsFault}
use Rattle.nb_settings.specs.declared.refusal.SettingsRefusal.{SettingsRefusal}
use Rattle.nb_settings.proofs.Tables.{IsFirst-here, IsFirst-after}

-- what is at fault up to a key
abbrev to_error : Data → List SettingsFault
to_error root = endpoint_faults_at root ++ error_faults_at (endpoint_at root) root

abbrev to_retries : Data → List SettingsFault
to_retries root = to_error root ++ retry_faults_at root

abbrev to_retention : Data → List SettingsFault
to_retention root = to_retries root ++ outbox_faults_at root

abbrev to_routes : Data → List SettingsFault
to_routes root = to_retention root ++ route_faults_at root

abbrev to_subscribers : Data → List SettingsFault
to_subscribers root = to_routes root ++ subscriber_faults_at root

abbrev to_policies : Data → List SettingsFault
to_policies root = to_subscribers root ++ policy_faults_at root

-- nothing twice is nothing
none-both : (a b : List SettingsFault) → a ≡ [] → b ≡ [] → a ++ b ≡ []
none-both a b none more = rw none more

-- nothing is at fault with the names
pub record AreRightNames (root : Data) (endpoint : List ℕ) : Type 0 where
  pub endpoint_right : endpoint_faults_at root ≡ []
  pub is_endpoint : endpoint ≡ endpoint_at root
  pub error_right : error_faults_at endpoint root ≡ []

none_to_error : (root : Data) (endpoint : List ℕ) → AreRightNames root endpoint → to_error root ≡ []
none_to_error root endpoint right = none-both (endpoint_faults_at root) (error_faults_at (endpoint_at root) root) right.endpoint_right (rw right.is_endpoint at right.error_right)

pub first_at_retries : (root : Data) (endpoint : List ℕ) (refusal : SettingsRefusal) → AreRightNames root endpoint
    → IsFirst (retry_faults_at root) refusal → IsFirst (faults_of root) refusal
first_at_retries root endpoint refusal right here =
    IsFirst-here refusal (to_policies root) (unknown_faults (least (others_of root)))
    (IsFirst-here refusal (to_subscribers root) (policy_faults_at root)
    (IsFirst-here refusal (to_routes root) (subscriber_faults_at root)
    (IsFirst-here refusal (to_retention root) (route_faults_at root)
    (IsFirst-here refusal (to_retries root) (outbox_faults_at root)
    (IsFirst-after refusal (to_error root) (retry_faults_at root) (none_to_error root endpoint right) here)))))

pub first_at_routes : (root : Data) (endpoint : List ℕ) (refusal : SettingsRefusal) → AreRightNames root endpoint → retry_faults_at root ≡ [] → outbox_faults_at root ≡ []
    → IsFirst (route_faults_at root) refusal → IsFirst (faults_of root) refusal
first_at_routes root endpoint refusal right retries retention here =
    IsFirst-here refusal (to_policies root) (unknown_faults (least (others_of root)))
    (IsFirst-here refusal (to_subscribers root) (policy_faults_at root)
    (IsFirst-here refusal (to_routes root) (subscriber_faults_at root)
    (IsFirst-after refusal (to_retention root) (route_faults_at root) (none-both (to_retries root) (outbox_faults_at root) (none-both (to_error root) (retry_faults_at root) (none_to_error root endpoint right) retries) retention) here)))

pub first_at_subscribers : (root : Data) (endpoint : List ℕ) (refusal : SettingsRefusal) → AreRightNames root endpoint → retry_faults_at root ≡ [] → outbox_faults_at root ≡ [] → route_faults_at root ≡ []
    → IsFirst (subscriber_faults_at root) refusal → IsFirst (faults_of root) refusal
first_at_subscribers root endpoint refusal right retries retention routes here =
    IsFirst-here refusal (to_policies root) (unknown_faults (least (others_of root)))
    (IsFirst-here refusal (to_subscribers root) (policy_faults_at root)
    (IsFirst-after refusal (to_routes root) (subscriber_faults_at root) (none-both (to_retention root) (route_faults_at root) (none-both (to_retries root) (outbox_faults_at root) (none-both (to_error root) (retry_faults_at root) (none_to_error root endpoint right) retries) retention) routes) here))

pub first_at_policies : (root : Data) (endpoint : List ℕ) (refusal : SettingsRefusal) → AreRightNames root endpoint → retry_faults_at root ≡ [] → outbox_faults_at root ≡ [] → route_faults_at root ≡ [] → subscriber_faults_at root ≡ []
    → IsFirst (policy_faults_at root) refusal → IsFirst (faults_of root) refusal
first_at_policies root endpoint refusal right retries retention routes subscribers here =
    IsFirst-here refusal (to_policies root) (unknown_faults (least (others_of root)))
    (IsFirst-after refusal (to_subscribers root) (policy_faults_at root) (none-both (to_routes root) (subscriber_faults_at root) (none-both (to_retention root) (route_faults_at root) (none-both (to_retries root) (outbox_faults_at root) (none-both (to_error root) (retry_faults_at root) (none_to_error root endpoint right) retries) retention) routes) subscribers) here)
