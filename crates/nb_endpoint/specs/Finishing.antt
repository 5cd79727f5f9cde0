-- Work at a hub of which nothing was asked before, to its end.
use Rattle.std.specs.Prelude.{◌≡◌, ◌≢◌, ℕ, ◌<◌, List, [], Option}
use Rattle.nb_core.specs.Calls.{View}
use Rattle.nb_core.specs.Past.{constants}
use Rattle.nb_core.specs.declared.history.History.{History}
use Rattle.nb_endpoint.specs.Asked.{Asked}
use Rattle.nb_endpoint.specs.Follows.{Begins, Follows, constants_of, state_in, until_after}
use Rattle.nb_endpoint.specs.Prints.{Prints}
use Rattle.nb_endpoint.specs.Rows.{Shows}
use Rattle.nb_endpoint.specs.declared.printing.Worked.{Worked}
use Rattle.nb_endpoint.specs.declared.work.Task.{Task}
use Rattle.nb_words.specs.declared.words.Command.TheVariants.{Sample}
use Rattle.nb_words.specs.declared.words.Words.{Words as Said}

-- The words and the task are those of what is asked for, and so is the history that is seen, which has no event yet.
pub record IsNew (workers : ℕ) (a : Asked) (said : Said) (task : Task) (v : View) : Type 0 where
  pub said_is : said ≡ a.said
  pub messages_are : task.messages ≡ a.messages
  pub until_is : task.until ≡ until_after a.moment a.said
  pub some : 0 < a.said.turns
  pub built : a.said.command ≢ Sample
  pub none : v.events ≡ []
  pub constants_are : constants v.fixed ≡ constants_of a
  pub turns : v.fixed.turns ≡ a.said.turns
  pub moment : v.fixed.opening.moment ≡ a.moment
  pub crew : v.fixed.opening.workers ≡ workers

-- what was asked for is done or refused, as the status says, and what is printed is what the history shows
pub record IsFinished (workers : ℕ) (a : Asked) (x : Worked) (h : History) (old new : Option (List ℕ)) : Type 0 where
  pub begins : Begins workers a h
  pub follows : Follows a x.status h
  pub shows : Shows a x.status h
  pub prints : Prints x.status (state_in a h) x.printed old new
