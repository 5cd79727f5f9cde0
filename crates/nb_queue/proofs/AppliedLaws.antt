-- The same of two answers of different types.
use Rattle.std.specs.Prelude.{◌≡◌, ℕ, Result, Ok, Err}
use Rattle.std.proofs.Common.{ap}
use Rattle.nb_base.specs.declared.tables.PostState.{PostState}
use Rattle.nb_cells.specs.Cells.{CellMap}
use Rattle.nb_queue.specs.Applied.{Applied, IsCounted}
use Rattle.nb_queue.specs.declared.fault.PostFault.{PostFault}

refusal : {T : Type 0} (f g : PostFault) → (let r : Result T PostFault = Err f in r) ≡ Err g → f ≡ g
refusal f g e = cc

module _ {C T U : Type 0} {honest : C → Type 0} {now images : C → CellMap → Type 0} {firm : C → Type 0} {old new : C} {before after : PostState} where
  pub applied_ok : (x : T) (y : U) → Applied honest now images firm old new before after (Ok x) → Applied honest now images firm old new before after (Ok y)
  applied_ok x y a = record {
    honest_before = a.honest_before;
    ok = a.ok;
    ok_firm = a.ok_firm;
    ok_images = a.ok_images;
    no_memory = λ h f s e. absurd cc;
    no_memory_firm = λ h f e. absurd cc;
    no_memory_images = λ h e. absurd cc;
    failed = λ h f s e. absurd cc;
    failed_images = λ h f s e. absurd cc;
    spent = λ e. absurd cc;
  }

  pub applied_err : (f : PostFault) → Applied {T = T} honest now images firm old new before after (Err f) → Applied {T = U} honest now images firm old new before after (Err f)
  applied_err f a = record {
    honest_before = a.honest_before;
    ok = λ h k s. tt;
    ok_firm = λ h k. tt;
    ok_images = λ h k s n i. tt;
    no_memory = λ h k s e. a.no_memory h k s (ap Err (refusal f _ e));
    no_memory_firm = λ h k e. a.no_memory_firm h k (ap Err (refusal f _ e));
    no_memory_images = λ h e. a.no_memory_images h (ap Err (refusal f _ e));
    failed = λ h k s e. a.failed h k s (ap Err (refusal f _ e));
    failed_images = λ h k s e. a.failed_images h k s (ap Err (refusal f _ e));
    spent = λ e. a.spent (ap Err (refusal f _ e));
  }

pub counted_err : {T U : Type 0} (before now : ℕ) (f : PostFault) → IsCounted {T = T} before now (Err f) → IsCounted {T = U} before now (Err f)
counted_err before now f c = record { later = c.later; failed = λ e. c.failed (ap Err (refusal f _ e)) }
