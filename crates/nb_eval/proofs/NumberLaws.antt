-- The blocks met, by their numbers.
use Rattle.std.proofs.Common.{◌≡◌, ℕ, ◌+◌, refl, sym, ap, ◌∙◌, List, [], ◌∷◌, ◌++◌, length, slice_get, Bool, true, false, Some, cond}
use Rattle.nb_check.specs.Blocks.{BlockTerm}
use Rattle.nb_check.specs.Meets.{is_met, number_if, met_from}
use Rattle.nb_check.specs.declared.incoming.Incoming.{Incoming}
use Rattle.nb_check.specs.declared.types.SagaType.{SagaType}
use Rattle.nb_check.proofs.SiteLaws.{at_seam, one_more, moved}
use Rattle.nb_eval.specs.declared.scene.State.{State}
use Rattle.nb_eval.specs.Blocks.{term_does, blocks_do, at_does, numbers_do}
use Rattle.nb_eval.specs.Values.{◌>>=◌}
use Rattle.nb_eval.specs.Worlds.{World}
use Rattle.nb_eval.proofs.Steps.{bind-same}

module _ (types : List SagaType) (m : Incoming) (w : World) where
  next-does : (all : List BlockTerm) (n block : ℕ) (b : BlockTerm) (bs : List BlockTerm) (ns : List ℕ) (s : State) (h : Bool) → slice_get all n ≡ Some b
      → ((k : ℕ) (t : State) → numbers_do types all k ns w t ≡ blocks_do types m k bs w t)
      → numbers_do types all block (number_if h n ++ ns) w s ≡ cond h (term_does types block b w s >>= (λ t. blocks_do types m (block + 1) bs w t)) (blocks_do types m block bs w s)
  next-does all n block b bs ns s true here rest =
      ap (λ o. at_does types block o w s >>= λ t. numbers_do types all (block + 1) ns w t) here
      ∙ bind-same (term_does types block b w s) (λ t. numbers_do types all (block + 1) ns w t) (λ t. blocks_do types m (block + 1) bs w t) (λ t e. rest (block + 1) t)
  next-does all n block b bs ns s false here rest = rest block s

  met-from-do : (front rest : List BlockTerm) (block : ℕ) (s : State) → numbers_do types (front ++ rest) block (met_from m (length front) rest) w s ≡ blocks_do types m block rest w s
  met-from-do front [] block s = refl
  met-from-do front (b ∷ bs) block s =
      next-does (front ++ b ∷ bs) (length front) block b bs (met_from m (length front + 1) bs) s (is_met m b) (at_seam front b bs)
      (λ k t. ap (λ n. numbers_do types (front ++ b ∷ bs) k (met_from m n bs) w t) (sym (one_more front b))
      ∙ ap (λ cs. numbers_do types cs k (met_from m (length (front ++ b ∷ [])) bs) w t) (sym (moved front b bs)) ∙ met-from-do (front ++ b ∷ []) bs k t)

-- the blocks with the numbers met do what the blocks met do
pub met_do : (types : List SagaType) (m : Incoming) (bs : List BlockTerm) (block : ℕ) (w : World) (s : State) → numbers_do types bs block (met_from m 0 bs) w s ≡ blocks_do types m block bs w s
met_do types m bs block w s = met-from-do types m w [] bs block s
