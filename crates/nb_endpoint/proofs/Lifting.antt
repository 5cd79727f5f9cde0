-- What was done for a job, as what the top call promises.
use Rattle.std.proofs.Common.{◌≡◌, ◌≢◌, ℕ, ◌≤◌, List, Option, Some, None, refl, sym, ap, ◌∙◌, subst, arith}
use Rattle.std.specs.Prelude.{Ok, IfSome, MatchOption}
use Rattle.nb_base.specs.Causes.{Rose}
use Rattle.nb_base.specs.Meanings.{IsMeaning}
use Rattle.nb_base.specs.declared.sink.Sink as sink
use Rattle.nb_base.specs.declared.source.Source as source
use Rattle.nb_cells.specs.Cells.{CellMap}
use Rattle.nb_cells.specs.declared.cells.Cells.{Ghosts}
use Rattle.nb_core.specs.Drained.{Drained}
use Rattle.nb_core.specs.Legal.{Legal, HasRoutes}
use Rattle.nb_core.specs.Outcome.{Outcome, AreSent}
use Rattle.nb_core.specs.Standing.{Constants}
use Rattle.nb_core.specs.declared.history.History.{History}
use Rattle.nb_core.specs.declared.state.State.{State}
use Rattle.nb_endpoint.specs.Asked.{Asked, IsAsked, IsMoment, SettingsAre, MessagesAre, IsRefused, Prepares, asked_by}
use Rattle.nb_endpoint.specs.Follows.{Begins, Follows, constants_of, state_in, until_of}
use Rattle.nb_endpoint.specs.Handed.{Handed, flows}
use Rattle.nb_endpoint.specs.Headline.{IsDone}
use Rattle.nb_endpoint.specs.Left.{AreLeft, RefusesBase, RefusesPost}
use Rattle.nb_endpoint.specs.Prints.{Prints, PrintsNothing}
use Rattle.nb_endpoint.specs.Rows.{Shows, IsDrained, IsOfStart, Counts, Risen}
use Rattle.nb_endpoint.specs.Sampling.{PrintsSample}
use Rattle.nb_endpoint.specs.Served.{served_words}
use Rattle.nb_endpoint.specs.Sources.{Flow, Flows}
use Rattle.nb_endpoint.specs.Stores.{IsRead, Told, TellsOne}
use Rattle.nb_endpoint.specs.Unbegun.{BothTold, IsDamage, PrintsAlone, PrintsFor, Unbegun, Why}
use Rattle.nb_endpoint.specs.declared.job.Job.{Job}
use Rattle.nb_endpoint.specs.declared.status.Status.{Status}
use Rattle.nb_endpoint.specs.declared.status.Status.TheVariants.{Done, NotDrained, Words, Script, Settings, Input, ReadFault, WriteFault, BaseFault, PostFault, NoMemory, Damaged, Spent}
use Rattle.nb_endpoint.proofs.Routing.{routes_of}
use Rattle.nb_endpoint.proofs.Saying.{served}
use Rattle.nb_hub.specs.Desks.{Started}
use Rattle.nb_script.specs.Tree.{script}
use Rattle.nb_words.specs.Cli.{words_of}
use Rattle.nb_words.specs.declared.words.Command.{Command}
use Rattle.nb_words.specs.declared.words.Command.TheVariants.{Run, Show, Retry, Purge, Sample}
use Rattle.nb_words.specs.declared.words.Words.{Words as Said}

-- ---- what is asked for

pub asked : (words : List (List ℕ)) (clock : Option ℕ) (f : Flows) (said : Said) (job : Job) → served_words words ≡ Some said → Prepares said clock f (Ok job)
    → IsAsked words clock f (asked_by job)
asked words clock f said job h p =
    let x = served words said h in
    record {
      said_is = x.0 ∙ ap (λ (y : Said). Some y) (sym p.0);
      stores = λ e. x.1 (ap (λ (y : Said). y.command) (sym p.0) ∙ e);
      moment_is = subst (λ (y : Said). IsMoment y.at clock job.moment) (sym p.0) p.1;
      script_is = p.2;
      settings_are = p.3;
      messages_are = subst (λ (y : Said). MessagesAre y.command f.lines job.messages) (sym p.0) p.4;
    }

pub has_routes : (t : Flow) (job : Job) → SettingsAre t (script job.handlers.checked) job.settings → HasRoutes (constants_of (asked_by job))
has_routes t job h = routes_of (script job.handlers.checked) job.settings h.2.routed

-- ---- what is printed without a history

alone_nothing : (said : Said) (c : Command) (status : Status) (n : ℕ) (old new : Option (List ℕ)) → c ≢ Sample → PrintsNothing n old new → PrintsAlone c said status n old new
alone_nothing said Run status n old new other h = h
alone_nothing said Show status n old new other h = h
alone_nothing said Retry status n old new other h = h
alone_nothing said Purge status n old new other h = h
alone_nothing said Sample status n old new other h = absurd (other refl)

pub prints_nothing : (words : List (List ℕ)) (said : Said) → words_of words ≡ Some said → said.command ≢ Sample → (status : Status) (n : ℕ) (old new : Option (List ℕ)) → PrintsNothing n old new
    → PrintsFor (words_of words) status n old new
prints_nothing words said is other status n old new h =
    subst (λ (o : Option Said). PrintsFor o status n old new) (sym is) (alone_nothing said said.command status n old new other h)

-- want of memory, whatever the words say
alone_short : (said : Said) (c : Command) (n : ℕ) (old new : Option (List ℕ)) → PrintsNothing n old new → PrintsAlone c said NoMemory n old new
alone_short said Run n old new h = h
alone_short said Show n old new h = h
alone_short said Retry n old new h = h
alone_short said Purge n old new h = h
alone_short said Sample n old new h = h

pub prints_short : (o : Option Said) (n : ℕ) (old new : Option (List ℕ)) → PrintsNothing n old new → PrintsFor o NoMemory n old new
prints_short None n old new h = h
prints_short (Some said) n old new h = alone_short said said.command n old new h

-- ---- what was done

-- a store that wasn't called
pub not_called : {C : Type 0} (g : Ghosts C) (store : C) → IsRead g store store
not_called g store = record {
  honest_before = λ honest. honest;
  kept_firm = λ honest firm. firm;
  kept = λ m honest firm now. now;
  fewer = λ n honest image. image;
  later = omega arith;
}

-- the laws of legal histories by which the outcome is had
abbrev pub LawOfOutcome : Type 0
LawOfOutcome = (c : Constants) (h : History) (s : State) → IsMeaning c.meaning → (legal : Legal c h s) → Outcome legal.run

abbrev pub LawOfSending : Type 0
LawOfSending = (c : Constants) (h : History) (s : State) (until : ℕ) → (legal : Legal c h s) → Drained c s until → AreSent legal.run until

module _ {S O P D : Type 0} (s : source.Ghosts S) (o : sink.Ghosts O) (p : Ghosts P) (d : Ghosts D) (x : Handed S O P D) where
  module _ (a : Asked) (asks : IsAsked x.words x.clock (flows s x) a) where
    started : (status : Status) → IsOfStart status → ((start : Started) → BothTold p d x start → RefusesBase (constants_of a).meaning start.base status × RefusesPost start.post status) → Why s p d x status
    started Done h damage = absurd h
    started (NotDrained takes) h damage = absurd h
    started Words h damage = absurd h
    started (Script line column kind) h damage = absurd h
    started (Settings key kind) h damage = absurd h
    started (Input line kind) h damage = absurd h
    started (ReadFault source) h damage = absurd h
    started WriteFault h damage = absurd h
    started BaseFault h damage = (a, asks)
    started PostFault h damage = (a, asks)
    started NoMemory h damage = tt
    started (Damaged store space key) h damage = (a, asks, damage)
    started Spent h damage = absurd h

    drained : (h : History) (status : Status) → Shows a status h → status ≡ Done → a.said.command ≡ Run → IsDrained a h
    drained h status shows done run = (subst (λ (y : Status). Shows a y h) done shows).1 run

    pub performed : LawOfOutcome → LawOfSending → (history : Option History) → IfSome history (Begins 1 a) → IfSome history (Follows a x.status) → MatchOption history (IsOfStart x.status) (Shows a x.status)
        → MatchOption history (PrintsNothing x.printed (o.held x.out.before) (o.held x.out.after)) (λ (h : History). Prints x.status (state_in a h) x.printed (o.held x.out.before) (o.held x.out.after))
        → IfSome history (λ (h : History). IsMeaning (constants_of a).meaning)
        → ((start : Started) → IfSome history (λ (h : History). TellsOne d x.base.before start.base → TellsOne p x.post.before start.post → AreLeft p d start a h x.post.after x.base.after))
        → (history ≡ None → IsRead d x.base.before x.base.after) → (history ≡ None → IsRead p x.post.before x.post.after)
        → ((m : CellMap) → history ≡ None → Told d x.base.before x.base.after m → RefusesBase (constants_of a).meaning m x.status)
        → ((m : CellMap) → history ≡ None → Told p x.post.before x.post.after m → RefusesPost m x.status)
        → IsDone s o p d (λ said. 1) x history
    performed outcome sending None begins follows shows prints means left base post of_base of_post = record {
      shows = started x.status shows (λ start told. (of_base start.base refl told.base, of_post start.post refl told.post));
      base_kept = base refl;
      post_kept = post refl;
      prints = prints_nothing x.words a.said asks.said_is asks.stores x.status x.printed (o.held x.out.before) (o.held x.out.after) prints;
    }
    performed outcome sending (Some h) begins follows shows prints means left base post of_base of_post = (
      a,
      record {
        asks = asks;
        opens = begins;
        acts = follows;
        leaves = λ start tell. left start tell.base tell.post;
        comes = outcome (constants_of a) h (state_in a h) means begins.legal;
        sends = λ run done. sending (constants_of a) h (state_in a h) (until_of a h) begins.legal (drained h x.status shows done run);
        prints = prints;
        shows = shows;
      },
    )

  -- ---- what was refused

  why_refused : (said : Said) (status : Status) → served_words x.words ≡ Some said → IsRefused said.command (flows s x) status → Why s p d x status
  why_refused said Done h r = absurd r
  why_refused said (NotDrained takes) h r = absurd r
  why_refused said Words h r = absurd r
  why_refused said (Script line column kind) h r = (said, h, r)
  why_refused said (Settings key kind) h r = (said, h, r)
  why_refused said (Input line kind) h r = (said, h, r)
  why_refused said (ReadFault source) h r = (said, h, r)
  why_refused said WriteFault h r = absurd r
  why_refused said BaseFault h r = absurd r
  why_refused said PostFault h r = absurd r
  why_refused said NoMemory h r = tt
  why_refused said (Damaged store space key) h r = absurd r
  why_refused said Spent h r = absurd r

  pub unprepared : (said : Said) → served_words x.words ≡ Some said → IsRefused said.command (flows s x) x.status → IsRead d x.base.before x.base.after → IsRead p x.post.before x.post.after
      → PrintsNothing x.printed (o.held x.out.before) (o.held x.out.after) → Unbegun s o p d x
  unprepared said h r base post prints =
      let is = served x.words said h in
      record {
        shows = why_refused said x.status h r;
        base_kept = base;
        post_kept = post;
        prints = prints_nothing x.words said is.0 is.1 x.status x.printed (o.held x.out.before) (o.held x.out.after) prints;
      }

  -- ---- a sample

  module _ (said : Said) (is : words_of x.words ≡ Some said) (sample : said.command ≡ Sample) where
    why_sample : (status : Status) (n : ℕ) (old new : Option (List ℕ)) → PrintsSample said.seed said.count status n old new → Why s p d x status
    why_sample Done n old new h = (said, is, sample)
    why_sample (NotDrained takes) n old new h = absurd h
    why_sample Words n old new h = absurd h
    why_sample (Script line column kind) n old new h = absurd h
    why_sample (Settings key kind) n old new h = absurd h
    why_sample (Input line kind) n old new h = absurd h
    why_sample (ReadFault source) n old new h = absurd h
    why_sample WriteFault n old new h = (said, is, sample)
    why_sample BaseFault n old new h = absurd h
    why_sample PostFault n old new h = absurd h
    why_sample NoMemory n old new h = tt
    why_sample (Damaged store space key) n old new h = absurd h
    why_sample Spent n old new h = absurd h

    pub sampled : PrintsSample said.seed said.count x.status x.printed (o.held x.out.before) (o.held x.out.after) → IsRead d x.base.before x.base.after → IsRead p x.post.before x.post.after → Unbegun s o p d x
    sampled h base post = record {
      shows = why_sample x.status x.printed (o.held x.out.before) (o.held x.out.after) h;
      base_kept = base;
      post_kept = post;
      prints = subst (λ (w : Option Said). PrintsFor w x.status x.printed (o.held x.out.before) (o.held x.out.after)) (sym is)
          (subst (λ (c : Command). PrintsAlone c said x.status x.printed (o.held x.out.before) (o.held x.out.after)) (sym sample) h);
    }

pub refused_risen : (c : Command) (f : Flows) (counts : Counts) (status : Status) → IsRefused c f status → Risen status counts
refused_risen c f counts Done r = tt
refused_risen c f counts (NotDrained takes) r = tt
refused_risen c f counts Words r = tt
refused_risen c f counts (Script line column kind) r = tt
refused_risen c f counts (Settings key kind) r = tt
refused_risen c f counts (Input line kind) r = tt
refused_risen c f counts (ReadFault source) r = tt
refused_risen c f counts WriteFault r = absurd r
refused_risen c f counts BaseFault r = absurd r
refused_risen c f counts PostFault r = absurd r
refused_risen c f counts NoMemory r = tt
refused_risen c f counts (Damaged store space key) r = tt
refused_risen c f counts Spent r = tt

pub sample_risen : (seed count : ℕ) (c : Counts) (status : Status) (n : ℕ) (old new : Option (List ℕ)) → PrintsSample seed count status n old new
    → (status ≡ WriteFault → Rose c.out_before c.out_after) → Risen status c
sample_risen seed count c Done n old new h rose = tt
sample_risen seed count c (NotDrained takes) n old new h rose = tt
sample_risen seed count c Words n old new h rose = tt
sample_risen seed count c (Script line column kind) n old new h rose = tt
sample_risen seed count c (Settings key kind) n old new h rose = tt
sample_risen seed count c (Input line kind) n old new h rose = tt
sample_risen seed count c (ReadFault source) n old new h rose = tt
sample_risen seed count c WriteFault n old new h rose = rose refl
sample_risen seed count c BaseFault n old new h rose = absurd h
sample_risen seed count c PostFault n old new h rose = absurd h
sample_risen seed count c NoMemory n old new h rose = tt
sample_risen seed count c (Damaged store space key) n old new h rose = tt
sample_risen seed count c Spent n old new h rose = tt
