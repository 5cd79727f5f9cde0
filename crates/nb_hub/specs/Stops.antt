-- What a refused call on a store comes to.
use Rattle.std.specs.Prelude.{◌≡◌}
use Rattle.nb_base.specs.declared.entry.Which.TheVariants.{Base, Post}
use Rattle.nb_core.specs.declared.event.Event.TheVariants.{Halt}
use Rattle.nb_core.specs.declared.answers.DeskFault.{DeskFault}
use Rattle.nb_core.specs.declared.answers.DeskFault.TheVariants.{StoreFailed, PostFailed, Spent, NoMemory}
use Rattle.nb_hub.specs.Ledgers.{with_event}
use Rattle.nb_hub.specs.declared.ledger.Course.{Course}
use Rattle.nb_queue.specs.declared.fault.PostFault.{PostFault}
use Rattle.nb_queue.specs.declared.fault.PostFault.TheVariants as post
use Rattle.nb_store.specs.declared.fault.StoreFault.{StoreFault}
use Rattle.nb_store.specs.declared.fault.StoreFault.TheVariants as base

-- a failed store ends the history in its Halt
abbrev pub IsPostStop : PostFault → Course → Course → DeskFault → Type 0
IsPostStop post.Failed p q why = (why ≡ PostFailed) × (q ≡ with_event p (Halt Post))
IsPostStop (post.Damaged space key) p q why = ⊥
IsPostStop post.Spent p q why = (why ≡ Spent) × (q ≡ p)
IsPostStop post.NoMemory p q why = (why ≡ NoMemory) × (q ≡ p)

abbrev pub IsBaseStop : StoreFault → Course → Course → DeskFault → Type 0
IsBaseStop base.Failed p q why = (why ≡ StoreFailed) × (q ≡ with_event p (Halt Base))
IsBaseStop (base.Damaged space key) p q why = ⊥
IsBaseStop base.Spent p q why = (why ≡ Spent) × (q ≡ p)
IsBaseStop base.NoMemory p q why = (why ≡ NoMemory) × (q ≡ p)
