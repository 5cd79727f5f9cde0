-- What is read of an input of lines.
use Rattle.std.specs.Prelude.{◌≡◌, ℕ, List, Result, Ok, Err}
use Rattle.nb_base.specs.Messages.{Message}
use Rattle.nb_endpoint.specs.declared.status.Status.{Status}
use Rattle.nb_endpoint.specs.declared.status.Status.TheVariants.{Input, NoMemory}
use Rattle.nb_envelope.specs.Inputs.{messages_of}

abbrev pub Loads : List ℕ → Result (List Message) Status → Type 0
Loads bytes (Ok messages) = messages_of bytes ≡ Ok messages
Loads bytes (Err (Input line kind)) = messages_of bytes ≡ Err (record { line = line; kind = kind })
Loads bytes (Err NoMemory) = Unit {0}
Loads bytes (Err _) = ⊥
