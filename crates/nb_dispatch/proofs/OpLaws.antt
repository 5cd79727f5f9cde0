-- Batches, message by message.
use Rattle.std.specs.Prelude.{◌≡◌, ℕ, suc, ◌+◌, ◌-◌, ◌≤◌, List, [], ◌∷◌, ◌++◌, length, take, drop, refl}
use Rattle.std.proofs.Common.{◌∙◌, sym, ap, subst, arith, append_assoc, length-append, get_or}
use Rattle.std.proofs.lemmas.List.{take_rest}
use Rattle.std.specs.List.{AllByRecursion}
use Rattle.nb_base.specs.Messages.{Message}
use Rattle.nb_base.specs.declared.entry.Op.{Op}
use Rattle.nb_base.specs.declared.plan.Intent.{Intent}
use Rattle.nb_base.specs.declared.settings.Settings.{Settings}
use Rattle.nb_dispatch.specs.Dispatches.{queues_of, CanDispatch, ops_to, ops_from}

module _ (s : Settings) (m : Message) (n at : ℕ) where
  -- an op for each queue
  pub length-ops_to : (x : Intent) (i : ℕ) (queues : List (List ℕ)) → length (ops_to s m n at x i queues) ≡ length queues
  length-ops_to x i [] = refl
  length-ops_to x i (q ∷ queues) = ap (λ k. suc k) (length-ops_to x (i + 1) queues)

  -- the first of the messages left has its ops
  pub some_more : (ops now : List Op) (x : Intent) (xs : List Intent) → now ≡ ops ++ ops_to s m n at x (length ops + 1) (queues_of s x.target x.name)
      → now ++ ops_from s m n at (length now + 1) xs ≡ ops ++ ops_from s m n at (length ops + 1) (x ∷ xs)
  some_more ops now x xs e =
      let queues = queues_of s x.target x.name in
      let batch : List Op = ops_to s m n at x (length ops + 1) queues in
      let longer : length now + 1 ≡ length ops + 1 + length queues = omega (arith, ap length e, length-append ops batch, length-ops_to x (length ops + 1) queues) in
      rw (longer, e) (append_assoc ops batch (ops_from s m n at (length ops + 1 + length queues) xs))

  -- and those behind it are left
  pub those_left : (ops now whole : List Op) (left : List Intent) (x : Intent) → 1 ≤ length left → x ≡ get_or left 0 x
      → AllByRecursion (CanDispatch s) left × (ops ++ ops_from s m n at (length ops + 1) left ≡ whole)
      → now ≡ ops ++ ops_to s m n at x (length ops + 1) (queues_of s x.target x.name)
      → AllByRecursion (CanDispatch s) (take (length left - 1) (drop 1 left)) × (now ++ ops_from s m n at (length now + 1) (take (length left - 1) (drop 1 left)) ≡ whole)
  those_left ops now whole [] x some is kept more = absurd (omega arith)
  those_left ops now whole (y ∷ ys) x some is kept more =
      let P : Intent → Type 0 = λ z. now ≡ ops ++ ops_to s m n at z (length ops + 1) (queues_of s z.target z.name) in
      let rest : take (length (y ∷ ys) - 1) (drop 1 (y ∷ ys)) ≡ ys = take_rest (y ∷ ys) 1 in
      let Q : List Intent → Type 0 = λ r. AllByRecursion (CanDispatch s) r × (now ++ ops_from s m n at (length now + 1) r ≡ whole) in
      subst Q (sym rest) (kept.0.1, some_more ops now y ys (subst P is more) ∙ kept.1)
