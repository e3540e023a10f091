use Rattle.lgm_board.proofs.Boards.{sees, follows_self}
use Rattle.lgm_board.proofs.eye.Eye.enter.Goals as goal

pub enter_as-requires : goal.enter_as-requires
enter_as-requires c x = sees _ _ x x (λ f. f) (λ f. follows_self x)
