-- The kit's names that walks by hand use, passed on, so that a walk names this file once: numbers
-- and lists, the machine (mir, prog), its logic (base, ghost), the calculus of scripts (types), and
-- the meaning of types and contracts (denote). A name that stands for two things in the kit is
-- renamed here (`as`), or stands for the first of them, and the other is named where it is used.
-- The last lines are of names that a walk unfolds.
pub use mathlib.Core.Bool.{Bool, false, not, true}
pub use mathlib.Core.List.{List, [], ◌++◌, ◌∷◌, map}
pub use mathlib.Core.Path.{◌∙◌, ◌≡◌, ap, refl, subst, sym}
pub use Prim.Native.Nat.{◌*◌, ◌+◌, ◌-◌, ◌<◌, ◌^◌, ◌≤◌, suc, zero, ℕ}
pub use native.Mathlib.Nat.{add-zero, le_of_suc-le-suc, not-suc-le-zero, zero-add}
pub use native.Mathlib.Omega.{arith}
pub use lib.Dec.{T as Holds, eqb, lit<}
pub use lib.ListN.{get_or, length, length-set, set}
pub use lib.Seq.{set-get_or}
pub use borrow.Author.Tests.{eq-eqb, eqb-false, eqb-true, le-ltb, lt-ltb}
pub use borrow.Within.Token.{Rest, within_end, within_token}
pub use base.Fraction.{full_share, left as PosShare·left, right as PosShare·right}
pub use seplogic.Ra.Ura.{Ura}
pub use mir.Syntax.{Body, Callee, Fn, Lifetime, Local, Opd as Operand, Step as PStep, Place, Ty}
pub use mir.Syntax.{Width, addr_of, aggregate, assign, block, call, cond, copy, deref, erased, exit}
pub use mir.Syntax.{field, local, loop, mut, named, return, seq, skip, switch, ty_array, ty_bool}
pub use mir.Syntax.{ty_int, ty_ptr, ty_ref, w32, w64, imm}
pub use mir.Val.{Fits, Val, WT, bits, has_ty, of_list, vbool, vcons, vint, vnil, vptr, vstruct}
pub use base.Fml.{Fml, GName, Lft, Share, fat, fauth, fbor, fdead, fdies, feq, flent, flft, fobor}
pub use base.Fml.{fhide, fobs, fres, froom, fsep, fshr_bor, ftrue}
pub use base.Logic.{SProp, all, all_e, apply∗, assoc', comm∗, emp, emp∗, ent, ex, fst∗, id⊢, mono_r}
pub use base.Logic.{mono∗, sep, snd∗, via, wand}
pub use prog.Memory.{Memory, size}
pub use prog.Model.{elems}
pub use prog.Routine.{Routine}
pub use prog.Wp.{Calls, Env, Heap, Loops, Out, Spot, Tables, Wp, WpFn, after_block, after_seq}
pub use prog.Wp.{at_return, pass, release, spot_of}
pub use ghost.Atoms.{Atoms}
pub use contract.BorrowLft.{meet_⊑_right}
pub use contract.Lifetimes.{AllOutlive, Lfts, Shares, toks}
pub use contract.Monad.{Fun, fact, fact_i}
pub use contract.Running.{tables}
pub use types.Kit.{++⊢, !, Go, Goal, Item, Post, Seq, Soaks, Sq, Step, ◌$◌, ◌∵◌, ◌⊛◌, aim}
pub use types.Kit.{allocs, any_q, assume, now as at_once, at_ret, await, by, cut, done, drop, each}
pub use types.Kit.{feq_i, feq_l, fjoin, fjoin3, fpack, fpick, frame, frees, fsplit, fsplit3, given}
pub use types.Kit.{join, keep, lands, later, learn, mean, move, nth, params', pick, pop, prop, push}
pub use types.Kit.{put, qed, raw, rewrite, runs, sel⊢, show, some, split, step, suffices, updating}
pub use types.Kit.{use1, use2, use3, ‵, ⊢++, ⋆}
pub use types.Part.{Part, agg, look_in, store_in, sub, whole}
pub use types.Run.{Finds, Opds, Walks, addr, alloc0, alloc1, and_then, assigns, assigns_last, bin}
pub use types.Run.{blocks, branches, enter, exec, first, fld, forget, from, hop, init, jumps, land}
pub use types.Run.{lit, load, look, look_raw, no_more, of_opd, returns, skips, stop, store}
pub use types.SemTy.{Arr, cells}
pub use types.Share.{arr_parts}
pub use types.Tokens.{lft_end, lft_new}
pub use sound.Loop.{unroll}
pub use sound.WpLaws.{FmC, WpFn-mono, fm_of}
pub use denote.Array.{Array, array_val}
pub use denote.Builtin.{u32, u64, u8, usize}
pub use denote.Exit.{Exit, Kept, Last, leaves, left, unchanged, yes}
pub use denote.Copied.{Copied}
pub use denote.Opens.{Shut}
pub use denote.Index.{closes_slice, elem_back, elem_out, looks_slice, opens_slice, others, place}
pub use denote.Index.{place_is, row, shuts_slice, whole_in, whole_out}
pub use denote.Laws.{Are, Copy, Is, Ises, Lawful, Makes, Spells, Tells, Tellss, Typed, shows, valss}
pub use denote.Lend.{Held, LentAgain, comes_back, lends_again, lends_ref, lends_slice, ref_back}
pub use denote.Lend.{slice_back}
pub use denote.Memory.{cell_at, mem, shares, pointee}
pub use denote.Plain.{UInt, uint_Lawful, uint_Makes, uint_Tells}
pub use denote.RattleType.{Denots, RattleType, RowLaws, flat, owns}
pub use denote.Ref.{MutRef, NamedLft, Bor, MutBor, ShrRef, mut_Tells, shr_vals, mut_vals, shr_copy, shr_Tells}
pub use denote.Shadow.{pure_i, pure_l}
pub use denote.Signature.{AllWithin, Slot, meet_at, mut_ref_to, mut_slice_of, name_of, named_lft, plain}
pub use denote.Signature.{shr_ref_to, shr_slice_of, type_at, types_at}
pub use denote.Slice.{MutSlice, Room, elements_shared, ShrSlice, shr_slice_at, mut_slice_at, coded_holeys, finally, heres}
pub use denote.Slice.{mut_slice_Tells, shr_slice_copy, shr_slice_Lawful, shr_slice_Tells}
pub use denote.Slice.{shr_slice_vals, mut_slice_vals, slice_ty, slice_val}
pub use denote.Steps.{closes, heard, nothing, only, opens, owned, peeks}
pub use denote.Struct.Declared.{Declared, fields}
pub use denote.Struct.Rest.{all_own, own_open, own_out, own_put, own_shut, field_own, rest}
pub use denote.Struct.Steps.{spelt}
pub use denote.Struct.Struct.{Plains}
pub use denote.Struct.Values.{Values}
pub use denote.Triple.Bound.{Bound}
pub use denote.Triple.Call.{calls_at}
pub use denote.Triple.Clauses.{Clauses, Ended, Lasts, at_exit, closing, lasts}
pub use denote.Triple.End.{Fins, Kepts, lasts_of}
pub use denote.Triple.Entry.{Args, Res, Vals, alive, on_entry}
pub use denote.Triple.Spec.{Meets, triple_of}
pub use denote.Triple.Statement.{Contract, Triple}
pub use denote.Triple.Table.{cited, entered}
pub use denote.Triple.Walked.{AllGo, Goes, Stay, Stays, ends_at, gave_ref, gave_slice}
pub use denote.Triple.Walked.{Goes-gave_ref, Goes-gave_slice, Goes-none, Goes-none_ref}
pub use denote.Triple.Walked.{Goes-none_slice, Goes-ref, Goes-slice, says, stay_none, stay_none_ref}
pub use denote.Triple.Walked.{stay_none_slice, stay_ref, stay_slice, walk_Meets, walk_of, walked}
unfoldable pub use prog.Wp.{after_turn}
unfoldable pub use contract.Running.{tables_of}
unfoldable pub use denote.Memory.{part_of}
