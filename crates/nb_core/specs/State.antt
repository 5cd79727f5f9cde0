-- States: what stands in one, and the changes that steps are made of.
pub use Rattle.nb_core.specs.declared.state.State.{State}
pub use Rattle.nb_core.specs.declared.phase.Phase.{Phase}
pub use Rattle.nb_core.specs.declared.phase.Phase.TheVariants.{Idle, Held, Looked, Sending, Leaving, Done}
pub use Rattle.nb_core.specs.Standing.{Constants, phase_in, phase, fails_in, fails, entry, recorded, base, number_of, AllIdle, HasRoom, IsReady, IsFree, IsLeastFree}
unfoldable pub use Rattle.nb_core.specs.Changes.{put_phase}
pub use Rattle.nb_core.specs.Changes.{at_phase, put, removed, recording, phase_by}
pub use Rattle.nb_core.specs.Failing.{after_delay, phase_after, given_up, move_after, failed_by, failed}
pub use Rattle.nb_core.specs.Committed.{commit_ops, commit_record, committed}
