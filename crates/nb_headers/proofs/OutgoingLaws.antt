-- The headers of an outgoing message, set one after the other, stand in their order.
use Rattle.std.specs.Prelude.{◌≡◌, ◌++◌, Option, Some, None, refl, List, ℕ}
use Rattle.std.proofs.Common.{◌∙◌}
use Rattle.nb_base.specs.Messages.{Message, header}
use Rattle.nb_base.specs.declared.plan.Target.{Target}
use Rattle.nb_base.specs.declared.plan.Target.TheVariants.{Send, Local, Publish, Reply, Originator, Timeout}
use Rattle.nb_headers.specs.Faults.{with_headers}
use Rattle.nb_headers.specs.HeaderNames.{originating_saga_id, originating_saga_type}
use Rattle.nb_headers.specs.Outgoing.{common, from_saga, timeout_mark, to_saga_of, addressee, outgoing}
use Rattle.nb_headers.specs.declared.made.Made.{Made}
use Rattle.nb_headers.specs.declared.made.SagaName.{SagaName}

replied : (incoming : Message) (made : Made) (saga : Option SagaName) (type id : Option (List ℕ))
    → with_headers (with_headers (common incoming made) (from_saga saga)) (to_saga_of type id) ≡ common incoming made ++ from_saga saga ++ to_saga_of type id
replied incoming made None None None = refl
replied incoming made None None (Some id) = refl
replied incoming made None (Some type) None = refl
replied incoming made None (Some type) (Some id) = refl
replied incoming made (Some saga) None None = refl
replied incoming made (Some saga) None (Some id) = refl
replied incoming made (Some saga) (Some type) None = refl
replied incoming made (Some saga) (Some type) (Some id) = refl

all_new : (incoming : Message) (made : Made) (target : Target) (saga : Option SagaName)
    → with_headers (with_headers (common incoming made) (from_saga saga)) (timeout_mark target ++ addressee incoming target saga) ≡ common incoming made ++ from_saga saga ++ timeout_mark target ++ addressee incoming target saga
all_new incoming made Send None = refl
all_new incoming made Send (Some saga) = refl
all_new incoming made Local None = refl
all_new incoming made Local (Some saga) = refl
all_new incoming made Publish None = refl
all_new incoming made Publish (Some saga) = refl
all_new incoming made (Reply to) None = replied incoming made None (header incoming.headers originating_saga_type) (header incoming.headers originating_saga_id)
all_new incoming made (Reply to) (Some saga) = replied incoming made (Some saga) (header incoming.headers originating_saga_type) (header incoming.headers originating_saga_id)
all_new incoming made (Originator to original) None = refl
all_new incoming made (Originator to original) (Some saga) = refl
all_new incoming made Timeout None = refl
all_new incoming made Timeout (Some saga) = refl

-- the three parts set one after the other
pub all_set : (incoming : Message) (made : Made) (first second third : Message)
    → first ≡ record { headers = common incoming made; body = made.body }
    → second ≡ record first { headers = with_headers first.headers (from_saga made.saga) }
    → third ≡ record second { headers = with_headers second.headers (timeout_mark made.target ++ addressee incoming made.target made.saga) }
    → third ≡ outgoing incoming made
unfolding outgoing
all_set incoming made first second third one two three =
    three ∙ rw (two, one) (rw (all_new incoming made made.target made.saga) refl)
