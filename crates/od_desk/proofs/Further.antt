-- How far a caller has come: one entry more, and orders one after another.
use Rattle.std.proofs.Common.{◌≡◌, ℕ, ◌+◌, ◌≤◌, List, [], ◌∷◌, ◌++◌, length, refl, sym, ap, ◌∙◌, subst, append_assoc, append-nil, inl, inr, ◌⊎◌, arith, length-append}
use Rattle.od_command.specs.declared.history.Command.{Command}
use Rattle.od_command.specs.declared.history.Command.TheVariants.{Step}
use Rattle.od_command.specs.declared.history.Entry.{Entry}
use Rattle.od_order.specs.declared.script.Order.{Order}
use Rattle.od_order.specs.declared.script.Order.TheVariants.{One, Run}
use Rattle.od_text.specs.Lists.{Each}
use Rattle.od_text.proofs.Lists.{Each-append}
use Rattle.od_model.specs.History.Legal.{mine}
use Rattle.od_model.specs.History.Orders.{GoesOn, IsGoing, Follows, Begins}
use Rattle.od_model.proofs.Histories.Orders.{Follows-one, Follows-run, IsGoing-snoc, Begins-none, Begins-more, Follows-after, Begins-after, Follows-begun, goes-or-ends}
use Rattle.od_model.proofs.Histories.Callers.{mine-append, mine-own}
use Rattle.od_desk.specs.Further.{OneMore, AtMostOne, none, one, Further, Unfolded, StepsOn, Alone}

-- ## One entry

-- the caller's entries with this one
pub mine-more : (caller : ℕ) (command : Command) (old new : List Entry) (e : Entry) → OneMore caller command old new e → mine caller new ≡ mine caller old ++ e ∷ []
mine-more caller command old new e h = ap (mine caller) h.new_is ∙ mine-append caller old (e ∷ []) ∙ ap (λ l. mine caller old ++ l) (mine-own caller (e ∷ []) (h.caller_is, tt))

-- nothing further
pub none-further : (P : List Entry → Type 0) (caller : ℕ) (old new : List Entry) → new ≡ old → P [] → Further P caller old new
none-further P caller old new same h = record { own = []; own_are = ap (mine caller) same ∙ sym (append-nil (mine caller old)); holds = h }

pub one-followed : (caller : ℕ) (command : Command) (old new : List Entry) (e : Entry) → OneMore caller command old new e → Unfolded Follows caller (One command ∷ []) old new
one-followed caller command old new e h = record { own = e ∷ []; own_are = mine-more caller command old new e h; holds = Follows-one command e h.command_is }

pub unfolded-begun : (caller : ℕ) (orders : List Order) (old new : List Entry) → Unfolded Follows caller orders old new → Unfolded Begins caller orders old new
unfolded-begun caller orders old new h = record { own = h.own; own_are = h.own_are; holds = Follows-begun orders h.own h.holds }

pub one-begun : (caller : ℕ) (command : Command) (old new : List Entry) → AtMostOne caller command old new → Unfolded Begins caller (One command ∷ []) old new
one-begun caller command old new (none same) = none-further (Begins (One command ∷ [])) caller old new same (inl refl)
one-begun caller command old new (one e h) = unfolded-begun caller (One command ∷ []) old new (one-followed caller command old new e h)

-- the number of the next call
pub next-call : (caller : ℕ) (command : Command) (old new : List Entry) (e : Entry) (call : ℕ) → OneMore caller command old new e → call ≡ length (mine caller old) + 1 → call + 1 ≡ length (mine caller new) + 1
next-call caller command old new e call h is = rw (mine-more caller command old new e h) (omega (arith, is, length-append (mine caller old) (e ∷ [])))

-- ## No other caller

pub none-alone : (caller : ℕ) (old new : List Entry) → new ≡ old → Alone caller old new
none-alone caller old new same = record { more = []; new_is = same ∙ sym (append-nil old); callers = tt }

pub one-alone : (caller : ℕ) (command : Command) (old new : List Entry) (e : Entry) → OneMore caller command old new e → Alone caller old new
one-alone caller command old new e h = record { more = e ∷ []; new_is = h.new_is; callers = (h.caller_is, tt) }

pub part-alone : (caller : ℕ) (command : Command) (old new : List Entry) → AtMostOne caller command old new → Alone caller old new
part-alone caller command old new (none same) = none-alone caller old new same
part-alone caller command old new (one e h) = one-alone caller command old new e h

pub then-alone : (caller : ℕ) (old mid new : List Entry) → Alone caller old mid → Alone caller mid new → Alone caller old new
then-alone caller old mid new h k = record {
  more = h.more ++ k.more;
  new_is = k.new_is ∙ ap (λ l. l ++ k.more) h.new_is ∙ append_assoc old h.more k.more;
  callers = Each-append (λ e. e.caller ≡ caller) h.more k.more h.callers k.callers;
}

-- ## Orders one after another

further-then : (P Q R : List Entry → Type 0) → ((es fs : List Entry) → P es → Q fs → R (es ++ fs)) → (caller : ℕ) (old mid new : List Entry) → Further P caller old mid → Further Q caller mid new → Further R caller old new
further-then P Q R join caller old mid new h k = record {
  own = h.own ++ k.own;
  own_are = k.own_are ∙ ap (λ l. l ++ k.own) h.own_are ∙ append_assoc (mine caller old) h.own k.own;
  holds = join h.own k.own h.holds k.holds;
}

pub follows-then : (caller : ℕ) (os ps : List Order) (old mid new : List Entry) → Unfolded Follows caller os old mid → Unfolded Follows caller ps mid new → Unfolded Follows caller (os ++ ps) old new
follows-then caller os ps = further-then (Follows os) (Follows ps) (Follows (os ++ ps)) (Follows-after os ps) caller

pub begins-then : (caller : ℕ) (os ps : List Order) (old mid new : List Entry) → Unfolded Follows caller os old mid → Unfolded Begins caller ps mid new → Unfolded Begins caller (os ++ ps) old new
begins-then caller os ps = further-then (Follows os) (Begins ps) (Begins (os ++ ps)) (Begins-after os ps) caller

-- more orders, of which nothing was done
pub begins-more : (caller : ℕ) (os ps : List Order) (old new : List Entry) → Unfolded Begins caller os old new → Unfolded Begins caller (os ++ ps) old new
begins-more caller os ps old new h = record { own = h.own; own_are = h.own_are; holds = Begins-more os ps h.own h.holds }

-- ## Steps that go on

pub steps-more : (name : List ℕ) (caller : ℕ) (old mid new : List Entry) (e : Entry) → StepsOn name caller old mid → OneMore caller (Step name) mid new e → GoesOn e.reply → StepsOn name caller old new
steps-more name caller old mid new e h k goes = further-then (IsGoing name) (λ l. l ≡ e ∷ []) (IsGoing name)
    (λ es fs going is. subst (λ l. IsGoing name (es ++ l)) (sym is) (IsGoing-snoc name es e going k.command_is goes)) caller old mid new h (record { own = e ∷ []; own_are = mine-more caller (Step name) mid new e k; holds = refl })

pub steps-ended : (name : List ℕ) (caller : ℕ) (old mid new : List Entry) (e : Entry) → StepsOn name caller old mid → OneMore caller (Step name) mid new e → (GoesOn e.reply → ⊥) → Unfolded Follows caller (Run name ∷ []) old new
steps-ended name caller old mid new e h k ends = further-then (IsGoing name) (λ l. l ≡ e ∷ []) (Follows (Run name ∷ []))
    (λ es fs going is. subst (λ l. Follows (Run name ∷ []) (es ++ l)) (sym is) (Follows-run name es e going k.command_is ends)) caller old mid new h (record { own = e ∷ []; own_are = mine-more caller (Step name) mid new e k; holds = refl })

pub steps-begun : (name : List ℕ) (caller : ℕ) (old new : List Entry) → StepsOn name caller old new → Unfolded Begins caller (Run name ∷ []) old new
steps-begun name caller old new h = record { own = h.own; own_are = h.own_are; holds = inl h.holds }

step-begun : (name : List ℕ) (caller : ℕ) (old mid new : List Entry) (e : Entry) → StepsOn name caller old mid → OneMore caller (Step name) mid new e → GoesOn e.reply ⊎ (GoesOn e.reply → ⊥) → Unfolded Begins caller (Run name ∷ []) old new
step-begun name caller old mid new e h k (inl goes) = steps-begun name caller old new (steps-more name caller old mid new e h k goes)
step-begun name caller old mid new e h k (inr ends) = unfolded-begun caller (Run name ∷ []) old new (steps-ended name caller old mid new e h k ends)

pub steps-cut : (name : List ℕ) (caller : ℕ) (old mid new : List Entry) → StepsOn name caller old mid → AtMostOne caller (Step name) mid new → Unfolded Begins caller (Run name ∷ []) old new
steps-cut name caller old mid new h (none same) = subst (λ l. Unfolded Begins caller (Run name ∷ []) old l) (sym same) (steps-begun name caller old mid h)
steps-cut name caller old mid new h (one e k) = step-begun name caller old mid new e h k (goes-or-ends e.reply)
