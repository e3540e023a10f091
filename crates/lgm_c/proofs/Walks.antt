-- What the walks of handles cite.
pub use Rattle.std.proofs.Common.{◌≡◌, [], ◌∷◌, refl, List, ◌++◌, sym, ℕ}
pub use mathlib.Core.Bool.{false, true}
pub use mir.Val.{Val, vbool}
pub use base.Logic.{SProp, emp, id⊢}
pub use types.Kit.{‵, raw, ◌⊛◌, ◌$◌, ◌∵◌, !, qed, by, keep, split, use0, fpack, prop, move, fsplit, fjoin, regoal, fpick, use1, rewrite, done, join, fsplit3, feq_i, suffices, frame, group}
pub use types.Run.{no_more, and_then, returns, enter, lit, false_lit, stop, fld, of_opd, true_lit, load}
pub use types.ByLocal.{alloc_all, pass_all, free_all, look_at, sets, get, get_in, through}
pub use types.Part.{agg, sub, whole, look_in}
pub use contract.Monad.{fact, fact_i}
pub use contract.Running.{tables}
pub use denote.RattleType.{owns}
pub use denote.Signature.{types_at, plain}
pub use denote.RawPtr.{null_ptr, ptr_val}
pub use denote.Steps.{nothing, heard, opens, closes}
pub use denote.Triple.Entry.{alive}
pub use denote.Triple.Walked.{Stays, walk_of, stay_dropped, says, stay_ref, Goes-ref, ends_at}
pub use Rattle.std.specs.declared.option.Option.TheVariants.{None, Some}
pub use Rattle.std.proofs.raw_atomic.Walks.{proved_at, leaves, proved}
pub use Rattle.lgm_c.proofs.Values.{words, words_good, handle_in, both, ptr_typed, OwnedBox, ptr_good, held_out, some_of, at_heap, Z, state_in, handle_out}
pub use prog.Wp.{WpFn}
pub use Rattle.std.proofs.alloc.Calls.{Goes-blank, handle_tells}
pub use Rattle.std.specs.declared.alloc.Global.{Global}
pub use Rattle.std.specs.contracts.impls.GlobalAllocator.TheImpl.{ghosts}
pub use Rattle.std.specs.Box.Ownership.{box_owns}
pub use Rattle.std.specs.Prelude.{is_some}
pub use Rattle.std.specs.declared.option.Option.{Option}
pub use Rattle.lgm_c.specs.inner.Handle.{owns_box}
pub use base.Fraction.{full_share}
pub use base.Fml.{ftrue, flft}
pub use mir.Syntax.{named}
pub use denote.Memory.{cell_at}
pub use denote.Ref.{MutRef, mut_vals, mut_Tells}
