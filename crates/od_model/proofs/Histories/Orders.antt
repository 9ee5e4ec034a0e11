-- Laws of orders and their entries.
use Rattle.std.proofs.Common.{◌≡◌, ◌⊎◌, ℕ, List, [], ◌∷◌, ◌++◌, refl, sym, ap, ◌∙◌, subst, inl, inr, append_assoc, append-nil}
use Rattle.od_extraction.specs.declared.phase.Phase.{Phase}
use Rattle.od_extraction.specs.declared.phase.Phase.TheVariants.{Going, Finished, AtLimit}
use Rattle.od_command.specs.declared.history.Command.{Command}
use Rattle.od_command.specs.declared.history.Command.TheVariants.{Step}
use Rattle.od_order.specs.declared.script.Order.{Order}
use Rattle.od_order.specs.declared.script.Order.TheVariants.{One, Run}
use Rattle.od_command.specs.declared.history.Reply.{Reply}
use Rattle.od_command.specs.declared.history.Reply.TheVariants.{Stepped}
use Rattle.od_command.specs.declared.history.Entry.{Entry}
use Rattle.od_model.specs.History.Orders.{GoesOn, IsGoing, Begun, IsOne, IsRun, Follows, Begins}

pub Follows-one : (command : Command) (e : Entry) → e.command ≡ command → Follows (One command ∷ []) (e ∷ [])
Follows-one command e h = record { going = []; last = e; more = []; es_are = refl; first = (refl, h); then_rest = refl }

pub Follows-run : (s : List ℕ) (es : List Entry) (e : Entry) → IsGoing s es → e.command ≡ Step s → (GoesOn e.reply → ⊥) → Follows (Run s ∷ []) (es ++ e ∷ [])
Follows-run s es e h c ends = record { going = es; last = e; more = []; es_are = refl; first = (h, c, ends); then_rest = refl }

pub IsGoing-snoc : (s : List ℕ) (es : List Entry) (e : Entry) → IsGoing s es → e.command ≡ Step s → GoesOn e.reply → IsGoing s (es ++ e ∷ [])
IsGoing-snoc s [] e h c g = (c, g, tt)
IsGoing-snoc s (x ∷ es) e h c g = (h.0, h.1, IsGoing-snoc s es e h.2 c g)

pub Begins-none : (orders : List Order) → Begins orders []
Begins-none [] = refl
Begins-none (One command ∷ orders) = inl refl
Begins-none (Run s ∷ orders) = inl tt

more-of : {First : List Entry → Entry → Type 0} {P Q : List Entry → Type 0} (es fs : List Entry) → ((rest : List Entry) → P rest → Q (rest ++ fs)) → Begun First P es → Begun First Q (es ++ fs)
more-of es fs f h = record { going = h.going; last = h.last; more = h.more ++ fs; es_are = ap (λ l. l ++ fs) h.es_are ∙ append_assoc h.going (h.last ∷ h.more) fs; first = h.first; then_rest = f h.more h.then_rest }

pub Follows-after : (os ps : List Order) (es fs : List Entry) → Follows os es → Follows ps fs → Follows (os ++ ps) (es ++ fs)
Follows-after [] ps es fs h k = rw h k
Follows-after (One command ∷ os) ps es fs h k = more-of es fs (λ rest r. Follows-after os ps rest fs r k) h
Follows-after (Run s ∷ os) ps es fs h k = more-of es fs (λ rest r. Follows-after os ps rest fs r k) h

pub Begins-after : (os ps : List Order) (es fs : List Entry) → Follows os es → Begins ps fs → Begins (os ++ ps) (es ++ fs)
Begins-after [] ps es fs h k = rw h k
Begins-after (One command ∷ os) ps es fs h k = inr (more-of es fs (λ rest r. Begins-after os ps rest fs r k) h)
Begins-after (Run s ∷ os) ps es fs h k = inr (more-of es fs (λ rest r. Begins-after os ps rest fs r k) h)

-- what follows some orders begins these and any more
pub Follows-begins : (os ps : List Order) (es : List Entry) → Follows os es → Begins (os ++ ps) es
Follows-begins os ps es h = rw append-nil at (Begins-after os ps es [] h (Begins-none ps))

pub Follows-begun : (os : List Order) (es : List Entry) → Follows os es → Begins os es
Follows-begun os es h = subst (λ (l : List Order). Begins l es) (append-nil os) (Follows-begins os [] es h)

-- ## More orders, and replies after which a run ends

begun-by : {First : List Entry → Entry → Type 0} {P Q : List Entry → Type 0} (es : List Entry) → ((rest : List Entry) → P rest → Q rest) → Begun First P es → Begun First Q es
begun-by es f h = record { going = h.going; last = h.last; more = h.more; es_are = h.es_are; first = h.first; then_rest = f h.more h.then_rest }

-- more orders, of which nothing was done
pub Begins-more : (os ps : List Order) (es : List Entry) → Begins os es → Begins (os ++ ps) es
Begins-more [] ps es h = rw h (Begins-none ps)
Begins-more (One command ∷ os) ps es (inl h) = inl h
Begins-more (One command ∷ os) ps es (inr h) = inr (begun-by es (λ rest r. Begins-more os ps rest r) h)
Begins-more (Run s ∷ os) ps es (inl h) = inl h
Begins-more (Run s ∷ os) ps es (inr h) = inr (begun-by es (λ rest r. Begins-more os ps rest r) h)

same-phase : (p : Phase) → (p ≡ Going) ⊎ (p ≡ Going → ⊥)
same-phase Going = inl refl
same-phase Finished = inr (λ e. cc)
same-phase AtLimit = inr (λ e. cc)

-- after a reply a run goes on, or it ends
pub goes-or-ends : (reply : Reply) → GoesOn reply ⊎ (GoesOn reply → ⊥)
goes-or-ends (Stepped round added phase) = same-phase phase
goes-or-ends reply = inr (λ h. h)

-- ## Fronts

IsGoing-front : (s : List ℕ) (es fs : List Entry) → IsGoing s (es ++ fs) → IsGoing s es
IsGoing-front s [] fs h = tt
IsGoing-front s (e ∷ es) fs h = (h.0, h.1, IsGoing-front s es fs h.2)

-- a front ends before the last entry of a run, or behind it
abbrev CutAt : List ℕ → List Entry → Entry → List Entry → List Entry → List Entry → Type 0
CutAt s going last more es fs = IsGoing s es ⊎ ((rest : List Entry) × (es ≡ going ++ last ∷ rest) × (more ≡ rest ++ fs))

cut-later : (s : List ℕ) (g : Entry) (going : List Entry) (last : Entry) (more es fs : List Entry) → g.command ≡ Step s → GoesOn g.reply → CutAt s going last more es fs → CutAt s (g ∷ going) last more (g ∷ es) fs
cut-later s g going last more es fs c r (inl h) = inl (c, r, h)
cut-later s g going last more es fs c r (inr (rest, es-are, more-is)) = inr (rest, ap (λ l. g ∷ l) es-are, more-is)

cut-run : (s : List ℕ) (going : List Entry) (last : Entry) (more es fs : List Entry) → IsGoing s going → es ++ fs ≡ going ++ last ∷ more → CutAt s going last more es fs
cut-run s going last more [] fs h e = inl tt
cut-run s [] last more (x ∷ es) fs h e =
    let same : x ≡ last = cc in let rest : es ++ fs ≡ more = cc in
    inr (es, ap (λ l. l ∷ es) same, sym rest)
cut-run s (g ∷ going) last more (x ∷ es) fs h e =
    let same : x ≡ g = cc in let rest : es ++ fs ≡ going ++ last ∷ more = cc in
    subst (λ l. CutAt s (g ∷ going) last more (l ∷ es) fs) (sym same) (cut-later s g going last more es fs h.0 h.1 (cut-run s going last more es fs h.2 rest))

-- an entry of one command, at the front
one-front : (command : Command) (P : List Entry → Type 0) (es fs : List Entry) → ((rest : List Entry) → P (rest ++ fs) → P rest) → Begun (IsOne command) P (es ++ fs) → (es ≡ []) ⊎ Begun (IsOne command) P es
one-front command P [] fs f h = inl refl
one-front command P (x ∷ es) fs f h =
    let is : x ∷ es ++ fs ≡ h.last ∷ h.more = h.es_are ∙ ap (λ l. l ++ h.last ∷ h.more) h.first.0 in
    let same : h.last ≡ x = cc in let rest : h.more ≡ es ++ fs = cc in
    inr (record { going = []; last = x; more = es; es_are = refl; first = (refl, subst (λ e. e.command ≡ command) same h.first.1); then_rest = f es (subst P rest h.then_rest) })

run-front : (s : List ℕ) (P : List Entry → Type 0) (es fs : List Entry) → ((rest : List Entry) → P (rest ++ fs) → P rest) → Begun (IsRun s) P (es ++ fs) → IsGoing s es ⊎ Begun (IsRun s) P es
run-front s P es fs f h = cut (cut-run s h.going h.last h.more es fs h.first.0 h.es_are)
  where
    cut : CutAt s h.going h.last h.more es fs → IsGoing s es ⊎ Begun (IsRun s) P es
    cut (inl going) = inl going
    cut (inr (rest, es-are, more-is)) = inr (record { going = h.going; last = h.last; more = rest; es_are = es-are; first = h.first; then_rest = f rest (subst P more-is h.then_rest) })

no-front : (es fs : List Entry) → es ++ fs ≡ [] → es ≡ []
no-front [] fs e = refl
no-front (x ∷ es) fs e = absurd (cc)

-- a front of a beginning is a beginning
pub Begins-front : (os : List Order) (es fs : List Entry) → Begins os (es ++ fs) → Begins os es
Begins-front [] es fs h = no-front es fs h
Begins-front (One command ∷ os) es fs (inl h) = inl (no-front es fs h)
Begins-front (One command ∷ os) es fs (inr h) = one-front command (Begins os) es fs (λ rest r. Begins-front os rest fs r) h
Begins-front (Run s ∷ os) es fs (inl h) = inl (IsGoing-front s es fs h)
Begins-front (Run s ∷ os) es fs (inr h) = run-front s (Begins os) es fs (λ rest r. Begins-front os rest fs r) h

-- ## Nothing goes on behind the whole

-- steps that go on have none among them that ends the run
ends-none : (s : List ℕ) (going : List Entry) (last : Entry) (more : List Entry) → IsGoing s (going ++ last ∷ more) → (GoesOn last.reply → ⊥) → ⊥
ends-none s [] last more h k = k h.1
ends-none s (g ∷ going) last more h k = ends-none s going last more h.2 k

-- two runs at the front of the same entries end with the same one
one-end : (s : List ℕ) (going going' : List Entry) (last last' : Entry) (more more' : List Entry) → IsGoing s going → IsGoing s going' → (GoesOn last.reply → ⊥) → (GoesOn last'.reply → ⊥)
    → going ++ last ∷ more ≡ going' ++ last' ∷ more' → more ≡ more'
one-end s [] [] last last' more more' h h' k k' e = cc
one-end s [] (g ∷ going') last last' more more' h h' k k' e = let same : g ≡ last = cc in absurd (k (subst (λ x. GoesOn x.reply) same h'.1))
one-end s (g ∷ going) [] last last' more more' h h' k k' e = let same : g ≡ last' = cc in absurd (k' (subst (λ x. GoesOn x.reply) same h.1))
one-end s (g ∷ going) (g' ∷ going') last last' more more' h h' k k' e = let rest : going ++ last ∷ more ≡ going' ++ last' ∷ more' = cc in one-end s going going' last last' more more' h.2 h'.2 k k' rest

-- where the entries of the first order are parted from the rest, of the whole and of what goes on behind it
parted : {First : List Entry → Entry → Type 0} {P : List Entry → Type 0} (es fs : List Entry) (h : Begun First P es) → es ++ fs ≡ h.going ++ h.last ∷ (h.more ++ fs)
parted es fs h = ap (λ l. l ++ fs) h.es_are ∙ append_assoc h.going (h.last ∷ h.more) fs

one-whole : (command : Command) (P Q : List Entry → Type 0) (es fs : List Entry) → ((rest : List Entry) → P rest → Q (rest ++ fs) → fs ≡ []) → Begun (IsOne command) P es → (es ++ fs ≡ []) ⊎ Begun (IsOne command) Q (es ++ fs) → fs ≡ []
one-whole command P Q es fs f h (inl none) =
    let is : [] ≡ h.last ∷ (h.more ++ fs) = sym none ∙ parted es fs h ∙ ap (λ l. l ++ h.last ∷ (h.more ++ fs)) h.first.0 in absurd (cc)
one-whole command P Q es fs f h (inr k) =
    let is : h.last ∷ (h.more ++ fs) ≡ k.last ∷ k.more = ap (λ l. l ++ h.last ∷ (h.more ++ fs)) (sym h.first.0) ∙ sym (parted es fs h) ∙ k.es_are ∙ ap (λ l. l ++ k.last ∷ k.more) k.first.0 in
    let rest : k.more ≡ h.more ++ fs = cc in
    f h.more h.then_rest (subst Q rest k.then_rest)

run-whole : (s : List ℕ) (P Q : List Entry → Type 0) (es fs : List Entry) → ((rest : List Entry) → P rest → Q (rest ++ fs) → fs ≡ []) → Begun (IsRun s) P es → IsGoing s (es ++ fs) ⊎ Begun (IsRun s) Q (es ++ fs) → fs ≡ []
run-whole s P Q es fs f h (inl going) = absurd (ends-none s h.going h.last (h.more ++ fs) (subst (IsGoing s) (parted es fs h) going) h.first.2)
run-whole s P Q es fs f h (inr k) =
    let rest : k.more ≡ h.more ++ fs = one-end s k.going h.going k.last h.last k.more (h.more ++ fs) k.first.0 h.first.0 k.first.2 h.first.2 (sym k.es_are ∙ parted es fs h) in
    f h.more h.then_rest (subst Q rest k.then_rest)

-- nothing goes on behind entries that unfold the orders
pub Follows-whole : (os : List Order) (es fs : List Entry) → Follows os es → Begins os (es ++ fs) → fs ≡ []
Follows-whole [] es fs h k = let is : [] ++ fs ≡ [] = subst (λ l. l ++ fs ≡ []) h k in is
Follows-whole (One command ∷ os) es fs h k = one-whole command (Follows os) (Begins os) es fs (λ rest r. Follows-whole os rest fs r) h k
Follows-whole (Run s ∷ os) es fs h k = run-whole s (Follows os) (Begins os) es fs (λ rest r. Follows-whole os rest fs r) h k
