-- What is sent in two lists of blocks, one behind the other.
use Rattle.std.proofs.Common.{◌≡◌, ℕ, List, [], ◌∷◌, ◌++◌, refl, sym, ap, ◌∙◌, append_assoc}
use Rattle.nb_check.specs.Blocks.{BlockTerm}
use Rattle.nb_check.specs.Sends.{braces_sends, blocks_sends}

pub sends_behind : (xs bs : List BlockTerm) → blocks_sends (xs ++ bs) ≡ blocks_sends xs ++ blocks_sends bs
sends_behind [] bs = refl
sends_behind (x ∷ xs) bs = ap (λ ns. braces_sends x.body ++ ns) (sends_behind xs bs) ∙ sym (append_assoc (braces_sends x.body) (blocks_sends xs) (blocks_sends bs))

pub sends_step : (all front done : List (List ℕ)) (xs bs : List BlockTerm) → all ≡ front ++ blocks_sends (xs ++ bs) → done ≡ front ++ blocks_sends xs → all ≡ done ++ blocks_sends bs
sends_step all front done xs bs so_far more =
    so_far ∙ ap (λ ns. front ++ ns) (sends_behind xs bs) ∙ sym (append_assoc front (blocks_sends xs) (blocks_sends bs)) ∙ ap (λ ns. ns ++ blocks_sends bs) (sym more)
