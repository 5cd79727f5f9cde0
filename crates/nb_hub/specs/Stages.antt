-- What contracts see of a hub.
use Rattle.std.specs.Prelude.{refl}
use Rattle.std.specs.Coded.{Coded, code_by, coded×}
use Rattle.nb_hub.specs.declared.ledger.Course.{Course}
use Rattle.nb_hub.specs.contracts.ledger.Course as course_type

-- the handlers, the history, and the stores of tables and of queues
pub record Stage (M P D : Type 0) : Type 0 where
  pub handlers : M
  pub course : Course
  pub base : D
  pub post : P

abbrev pub stage_code : {M P D : Type 0} → Coded M → Coded P → Coded D → Coded (Stage M P D)
stage_code {M = M} {P = P} {D = D} m p d =
    code_by (M × (Course × (D × P))) (coded× m (coded× course_type.the_row.coded (coded× d p))) (λ s. (s.handlers, (s.course, (s.base, s.post)))) (λ x. record { handlers = x.0; course = x.1.0; base = x.1.1.0; post = x.1.1.1 }) (λ _. refl)
