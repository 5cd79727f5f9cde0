use Rattle.std.proofs.Common.{◌∙◌, ap}
use Rattle.nb_cells.specs.Mem.{left, next_read, next_apply}
use Rattle.nb_cells.specs.Table.{told}
use Rattle.nb_cells.proofs.MemLaws.{ok_told, ok_left, failed_told, failed_left, no_memory_same, read_told, read_left, if_scans, on_ok}
use Rattle.nb_cells.proofs.mem_cells.MemCellsCells.TheImpl.Goals as goal

pub scan-tells : goal.scan-tells
scan-tells c =
    let old = c.args.self.now in
    let new = c.new.self.now in
    record {
      honest_before = λ h. h;
      kept_firm = λ _ f. f;
      kept = λ m _ _ alike s k. ap (λ t. told t s k) (read_told (next_read old) old new c.result c.ensures.turn) ∙ alike s k;
      images = λ n _ image s k. image s k ∙ ap (λ t. told t s k) (read_left (next_read old) old new c.result c.ensures.turn);
      ok = λ m _ _ alike. if_scans old.told m c.args.space c.result alike c.ensures.value;
      cause = c.ensures.cause;
    }

pub apply-tells : goal.apply-tells
apply-tells c =
    let old = c.args.self.now in
    let new = c.new.self.now in
    let changes = c.args.changes.now in
    record {
      honest_before = λ h. h;
      ok = λ m _ _ alike. ok_told old new changes c.result m c.ensures.turn alike;
      ok_firm = λ _ f. on_ok c.result f;
      ok_images = λ m n _ _ alike image. ok_left old new changes c.result m n c.ensures.turn alike image;
      no_memory = λ m _ _ alike none s k. ap (λ d. told d.told s k) (no_memory_same (next_apply old) old _ new c.result c.ensures.turn none) ∙ alike s k;
      no_memory_firm = λ _ f _. f;
      no_memory_images = λ n _ none image s k. image s k ∙ ap (λ d. told (left d) s k) (no_memory_same (next_apply old) old _ new c.result c.ensures.turn none);
      failed = λ m _ _ alike failed _ s k. ap (λ t. told t s k) (failed_told old new changes c.result c.ensures.turn failed) ∙ alike s k;
      failed_images = λ m n _ _ alike failed image. failed_left old new changes c.result m n c.ensures.turn failed alike image;
      cause = c.ensures.cause;
    }
