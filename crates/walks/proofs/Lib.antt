-- Laws for walks by hand. A walk proves a function that the borrow checker does not cover, along
-- its MIR (`rt check --generated FOLDER --start F` writes it): from what it is handed, statement by
-- statement, to what its contract promises. Scripts are those of `types.Kit` and `types.Run`; these
-- laws are the larger steps that every walk takes. No function needs one today.
--
-- How to walk, in this order:
--   1. The structs of the signature as `Data.struct`; a number is `Data.number`.
--   2. The parameters as `Meeting.Params` (`by_value`, `shared`, `kept`, `given`; `shared_ref`,
--      `kept_ref`, `given_ref`), and as a record of values, `Lending`s and `RefLending`s; what is
--      owned of them as `Handing.Part`s.
--   3. Contexts: what is owned, then `Locals.cells` with what each local holds; a local stands at
--      `Locals.behind`.
--   4. The body's statements, below.
--   5. The end: `Handing.ends` and the kit's `ends_at`, behind `Locals.freed`.
--   6. `Locals.walks_in` enters the function, and `Meeting.meets_by` is the theorem.
--
-- Which law for which statement of MIR:
--   _a = &mut *_s of a slice     Reborrow.reborrows (two assignments)
--   _a = &mut *_r of a `&mut T`  Reborrow.reborrows_ref
--   a slice lent to a callee     Again.lends before the call, Again.returned after it; for good:
--                                its `Held_at` is handed over, and `finally` comes back
--   a `&mut T` lent to a callee  RefAgain.lends, RefAgain.returned; for good: its `Held_ref` is
--                                handed over, and the last value comes back
--   a `&[T]` for a callee too    Elem.twice
--   a `&T` for a callee too      RefAgain.twice_ref
--   a local lent as `&mut`       LentLocal.lends, LentLocal.returned
--   _r = f(..)                   Calling.calls_by, then the kit's `land`
--   _a = run[i] of a `&[T]`      Elem.elem_opens, `look_raw`, Elem.elem_shuts
--   _a = s.xs[i], s.xs[i] = _a   InArray.elem, within `look_in` and `store_in`
--   while                        recursion on what is left of a list, Tail, over the kit's `unroll`
--   return                       the kit's `returns`, then Locals.freed
pub mod Kit
pub mod Data
pub mod Lending
pub mod RefLending
pub mod Locals
pub mod Handing
pub mod Calling
pub mod Meeting
pub mod Reborrow
pub mod Again
pub mod RefAgain
pub mod LentLocal
pub mod Elem
pub mod InArray
pub mod Tail
