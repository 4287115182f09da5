-- A push that is granted: the limit stands last in the list, and is put on a copy of the newest table.
use Rattle.std.proofs.Common.{◌≡◌, ◌-◌, List, [], ◌∷◌, ◌++◌, length, get_or, pos, ◌+ℤ◌, ◌≤ℤ◌, vec_items, vec_len, None, ap, sym, ◌∙◌, subst, arith}
use Rattle.std.specs.List.{HoldsAt}
use Rattle.network.specs.Calls.{with_limit, refusal_before, Granted}
use Rattle.network.specs.Limits.{Lawful}
use Rattle.network.specs.Lists.{net_of}
use Rattle.network.specs.Nets.{Net}
use Rattle.network.specs.declared.limit.Limit.{Limit}
use Rattle.network.specs.declared.limit_list.LimitList.{LimitList}
use Rattle.square_network.specs.Answered.{soonest, solves}
use Rattle.square_network.specs.Distances.{at}
use Rattle.square_network.specs.Model.{modelled}
use Rattle.square_network.specs.Shortest.{Shortest, Held, Lengthened}
use Rattle.square_network.specs.declared.distances.Distances.{Distances}
use Rattle.square_network.specs.declared.square.SquareNetwork.{SquareNetwork}
use Rattle.square_network.proofs.Held.{held_behind}
use Rattle.square_network.proofs.Pushes.{longer}

-- d has the shortest distances of s, and stands last in its tables; list and ds have the limit and its table behind the others
module _ (s : SquareNetwork) (l : Limit) (d : Distances) (short : Shortest (modelled s).day (modelled s).limits d)
    (last : HoldsAt (λ e. d ≡ e) (vec_items s.tables) (vec_len s.tables - 1)) (lawful : Lawful (modelled s).day l)
    (free : pos 0 ≤ℤ (at d.rows l.y l.x +ℤ l.bound)) (list : LimitList) (becomes : net_of list ≡ with_limit (modelled s) l) (ds : List Distances)
    (more : Lengthened l (vec_items s.tables) ds) where
  there : vec_len s.tables - 1 ≡ length (vec_items s.tables) - 1
  there = omega arith

  newest : get_or (vec_items s.tables) (length (vec_items s.tables) - 1) d ≡ d
  newest = sym (last d ∙ ap (λ k. get_or (vec_items s.tables) k d) there)

  next : Shortest (modelled s).day ((modelled s).limits ++ l ∷ []) more.next
  next =
      longer (modelled s).day (modelled s).limits d short l lawful s.limits.lawful free
      (get_or (vec_items s.tables) (length (vec_items s.tables) - 1) d) more.next newest (more.of_day d) (more.shortened d)

  pub held_after : Held (net_of list).day (net_of list).limits ds
  held_after = held_behind (modelled s) (net_of list) l (vec_items s.tables) ds more.next becomes more.behind (omega arith) s.held next

  pub granted : refusal_before (modelled s) l ≡ None → Granted (modelled s) l (net_of list)
  granted passes = record {
    passes = passes;
    becomes = becomes;
    solvable = (
      soonest more.next.rows,
      solves (net_of list).day (net_of list).limits list.lawful more.next (subst (λ (m : Net). Shortest m.day m.limits more.next) (sym becomes) next),
    );
  }
