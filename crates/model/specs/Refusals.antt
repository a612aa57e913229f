-- 01 and of 02 E1, E2, E5 and E8, the refusals in the order of their checks: each condition by its name. Those of text alone stand in `Text`.
use Rattle.std.specs.Prelude.{ℕ, zero, suc, ◌-◌, ◌/◌, ◌%◌, Bool, true, false, cond, not, ◌&&◌, ◌||◌, List, [], ◌∷◌, length, get_or, take, ltb, eqb}
use Rattle.lists.specs.Tests.{within}
use Rattle.model.specs.declared.Module.{Module}
use Rattle.model.specs.Frames.{sum_of, num_of, universal, spinel_broadcast, crc_of, modbus_broadcast}

-- 1. the buffer could not take a frame of the greatest length, 256 bytes
abbrev pub buffer_short : ℕ → Bool
buffer_short room = ltb room 256

-- 2. too short for the fixed parts of its kind, or longer than its kind goes (`least` and `most`: Spinel 9 and 256, Modbus 4 and 256, text 5
-- and 32)
abbrev pub frame_length_wrong : ℕ → ℕ → List ℕ → Bool
frame_length_wrong least most f = not (within least most (length f))

-- 3. not begun by 2A 61, not ended by 0D, or NUM does not tell the bytes that follow it
unfoldable pub shape_wrong : List ℕ → Bool
shape_wrong f =
    not (eqb (get_or f 0 0) 0x2A
    && (eqb (get_or f 1 0) 0x61
    && (eqb (get_or f (length f - 1) 0) 0x0D
    && eqb (num_of f) (length f - 4))))

-- 4. the check is not that of the bytes before it: SUM in the last byte but one, CRC in the last two, low byte first. A wire tells whether it
-- is tested at all (E5)
unfoldable pub sum_wrong : List ℕ → Bool
sum_wrong f = not (eqb (get_or f (length f - 2) 0) (sum_of (take (length f - 2) f)))

abbrev tells : ℕ → ℕ → ℕ → Bool
tells low high c = eqb low (c % 256) && eqb high (c / 256)

unfoldable pub crc_wrong : List ℕ → Bool
crc_wrong f = not (tells (get_or f (length f - 2) 0) (get_or f (length f - 1) 0) (crc_of (take (length f - 2) f)))

-- 5. meant for another module: neither to this port's address nor to one that all take for theirs; an own address equal to a special one,
-- which no setting gives, means what the special one means
unfoldable pub spinel_address_wrong : ℕ → ℕ → Bool
spinel_address_wrong own to = not (eqb to own || (eqb to universal || eqb to spinel_broadcast))

unfoldable pub modbus_address_wrong : ℕ → ℕ → Bool
modbus_address_wrong own to = not (eqb to own || eqb to modbus_broadcast)

-- 6. to all modules, and not one of the requests that command outputs: 20H, 23H, 25H on Spinel, 05 and 0F on Modbus
unfoldable pub spinel_broadcast_wrong : ℕ → ℕ → Bool
spinel_broadcast_wrong to i = eqb to spinel_broadcast && not (eqb i 0x20 || (eqb i 0x23 || eqb i 0x25))

unfoldable pub modbus_broadcast_wrong : ℕ → ℕ → Bool
modbus_broadcast_wrong to fn = eqb to modbus_broadcast && not (eqb fn 0x05 || eqb fn 0x0F)

-- 7 to 14, in the order in which they are looked at:
-- 7. a code that has no meaning
-- 8. more or less data than the code takes, in text other characters; a byte count that does not fit, or a quantity that the function does
-- not take
-- 9. registers or coils outside the groups that the function serves, across the end of one, or none, too many or wrongly placed for theirs
-- 10. configuring while the port is not permitted to; also E4H and E0H sent to the universal address, and E, AS and SS typed to it
-- 13. a list of deductions, of 61H, with the same number twice
-- 11. a number, mode, time or other value that its place does not take, or more to deduct than was counted
-- 14. a link for an output with an active thermostat, or an active thermostat for one with a link (E8)
-- 12. an output that its thermostat does not let go of now
unfoldable pub checking_order : List ℕ
checking_order = 7 ∷ 8 ∷ 9 ∷ 10 ∷ 13 ∷ 11 ∷ 14 ∷ 12 ∷ []

-- A request that has passed 1 to 6, on the part P of the state that it may change: which of these hold, and what it comes to where none does.
pub record Request (P : Type 0) : Type 0 where
  pub holds : ℕ → Bool
  -- the part after it
  pub after : P
  -- the reply's data or body
  pub reply : List ℕ

-- what nothing stands against
abbrev pub accepting : {P : Type 0} → P → List ℕ → Request P
accepting p d = record { holds = λ n. false; after = p; reply = d }

-- a condition that holds by h, or by b too where this is the number meant
abbrev pub or_also : Bool → Bool → Bool → Bool
or_also true b h = h || b
or_also false b h = h

-- the same request, refused by n also where the test holds
abbrev pub refuse : {P : Type 0} → ℕ → Bool → Request P → Request P
refuse n b q = record { holds = λ k. or_also (eqb k n) b (q.holds k); after = q.after; reply = q.reply }

abbrev pub not_listed : {P : Type 0} → P → Request P
not_listed p = refuse 7 true (accepting p [])

-- a request on a part, as one on the whole
abbrev pub on_part : {P Q : Type 0} → (P → Q) → Request P → Request Q
on_part put q = record { holds = q.holds; after = put q.after; reply = q.reply }

-- one that changes no part, as one on the whole
abbrev pub reading : {Q : Type 0} → Q → Request (Unit {0}) → Request Q
reading m q = on_part (λ _. m) q

-- such a one: these data are its answer
abbrev pub telling : List ℕ → Request (Unit {0})
telling d = accepting tt d

-- the answer to a request: the refusal's number or 0, the part after, the reply's data
pub record Done (P : Type 0) : Type 0 where
  pub refusal : ℕ
  pub part : P
  pub reply : List ℕ

abbrev pub refused : {P : Type 0} → ℕ → P → Done P
refused n p = record { refusal = n; part = p; reply = [] }

-- the answer about a part, as one about the whole
abbrev pub done_at : {P Q : Type 0} → (P → Q) → Done P → Done Q
done_at put o = record { refusal = o.refusal; part = put o.part; reply = o.reply }

-- the first of some numbers whose condition holds, or 0
unfoldable pub first_holding : List ℕ → (ℕ → Bool) → ℕ
first_holding [] holds = 0
first_holding (n ∷ ns) holds = cond (holds n) n (first_holding ns holds)

-- what a request is refused by, or 0
unfoldable pub refusal_of : {P : Type 0} → Request P → ℕ
unfolding first_holding checking_order
refusal_of q = first_holding checking_order q.holds

-- a request refused by a number leaves the part as it was; not refused (0), it does what it asks for
abbrev pub decided : {P : Type 0} → ℕ → P → P → List ℕ → Done P
decided zero before after reply = record { refusal = 0; part = after; reply = reply }
decided (suc n) before after reply = refused (suc n) before

-- naming this on an `unfolding` line opens the order too
unfoldable pub judged : {P : Type 0} → P → Request P → Done P
unfolding refusal_of
judged before q = decided (refusal_of q) before q.after q.reply

-- the ACK that tells a refusal; 0, accepted, is told by 00
unfoldable pub ack_of : ℕ → ℕ
ack_of n = cond (eqb n 0) 0x00 (cond (eqb n 7) 0x02 (cond (eqb n 10) 0x04 0x03))

-- a refusal's exception code
unfoldable pub exception_of : ℕ → ℕ
exception_of n =
    cond (eqb n 7) 0x01
    (cond (eqb n 9) 0x02
    (cond (eqb n 10) 0x04
    (cond (eqb n 12 || eqb n 14) 0x04 0x03)))

-- a call's answer: the refusal's number or 0, the state after, the reply's bytes
pub record Out : Type 0 where
  pub refusal : ℕ
  pub after : Module
  pub reply : List ℕ

-- no reply
abbrev pub silent : ℕ → Module → Out
silent n m = record { refusal = n; after = m; reply = [] }

-- a frame that one of 2 to 6 refuses changes nothing and is not answered; 0 goes on
abbrev pub if_passes : ℕ → Module → Out → Out
if_passes zero m o = o
if_passes (suc n) m o = silent (suc n) m
