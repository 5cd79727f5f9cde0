-- Why a desk was met with a fault, at the end of a history.
use Rattle.std.proofs.Common.{◌≡◌, List, [], ◌∷◌, ◌++◌, true, false, sym, ap, ◌∙◌, append_assoc}
use Rattle.nb_base.specs.declared.entry.Which.TheVariants.{Base, Post}
use Rattle.nb_core.specs.Calls.{View, OwnsAll}
use Rattle.nb_core.specs.Legal.{halted}
use Rattle.nb_core.specs.declared.answers.DeskFault.{DeskFault}
use Rattle.nb_core.specs.declared.answers.DeskFault.TheVariants as desk
use Rattle.nb_core.specs.declared.event.Event.{Event}
use Rattle.nb_core.specs.declared.event.Event.TheVariants.{Halt}
use Rattle.nb_endpoint.specs.Faults.{IsMet}
use Rattle.nb_hub.proofs.Histories.{failed_push}
use Rattle.nb_hub.specs.Kept.{failed_store}
use Rattle.nb_pump.proofs.Views.{made_alone}
use Rattle.nb_pump.specs.Made.{Made}
use Rattle.nb_pump.specs.Stops.{StopsBy}

pub met : (S : Type 0) (f : DeskFault) (v w : View) (own : List Event) → OwnsAll v → Made v own w → halted v.events ≡ false → StopsBy S f v own w → IsMet f w.events
met S desk.StoreFailed v w own all m on s =
    ap failed_store (made_alone v w own all m ∙ ap (λ (es : List Event). v.events ++ es) s.1 ∙ sym (append_assoc v.events s.0 (Halt Base ∷ []))) ∙ failed_push (v.events ++ s.0) (Halt Base)
met S desk.PostFailed v w own all m on s =
    ap failed_store (made_alone v w own all m ∙ ap (λ (es : List Event). v.events ++ es) s.1 ∙ sym (append_assoc v.events s.0 (Halt Post ∷ []))) ∙ failed_push (v.events ++ s.0) (Halt Post)
met S desk.Spent v w own all m on s = s.0
met S desk.Halted v w own all m on s = let clash : true ≡ false = sym s.1 ∙ on in absurd (cc)
met S desk.NoMemory v w own all m on s = s
