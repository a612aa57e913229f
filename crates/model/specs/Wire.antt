-- One frame of any kind, binary or text on the Spinel port (E2), or Modbus: what all do (01, refusals 1 to 6, permission and reply), over
-- what differs between their wires.
use Rattle.std.specs.Prelude.{ℕ, Bool, false, cond, ◌&&◌, List, [], eqb}
use Rattle.model.specs.declared.Port.{Port}
use Rattle.model.specs.declared.Module.{Module}
use Rattle.model.specs.State.{permit}
use Rattle.model.specs.Refusals.{Request, Done, judged, Out, silent, if_passes, buffer_short, frame_length_wrong}

pub record Wire : Type 0 where
  -- the port that it leads to, and the state with another in its place
  pub port : Module → Port
  pub with_port : Module → Port → Module
  -- 2: the fewest bytes of a frame, and the most
  pub least : ℕ
  pub most : ℕ
  -- 3; 4, and whether it is tested in this state (E5)
  pub shape_wrong : List ℕ → Bool
  pub check_wrong : List ℕ → Bool
  pub check_tested : Module → Bool
  -- whom a frame is for; 5, by the port's own address; 6
  pub addressee : List ℕ → ℕ
  pub address_wrong : ℕ → ℕ → Bool
  pub broadcast_wrong : List ℕ → Bool
  -- the address of all modules, to which nothing goes back
  pub broadcast : ℕ
  -- what a frame asks for, by whether its port was permitted
  pub asked : Bool → List ℕ → Module → Request Module
  -- the reply to a frame, from this address
  pub replied : ℕ → List ℕ → Done Module → List ℕ

-- 2 to 6 of a frame for the port with address own, where 4 is tested or not: the first that holds, or 0
unfoldable pub frame_refusal : Wire → Bool → ℕ → List ℕ → ℕ
frame_refusal w tested own f =
    cond (frame_length_wrong w.least w.most f) 2
    (cond (w.shape_wrong f) 3
    (cond (tested && w.check_wrong f) 4
    (cond (w.address_wrong own (w.addressee f)) 5
    (cond (w.broadcast_wrong f) 6 0))))

-- a request that 1 to 6 let through uses the port's permission up, accepted or not
abbrev pub used_up : Wire → Module → Module
used_up w m = w.with_port m (permit false (w.port m))

-- what a frame that passes 2 to 6 asks for, once it has used the permission up
abbrev pub request_of : Wire → List ℕ → Module → Request Module
request_of w f m = w.asked (w.port m).permitted f (used_up w m)

-- nothing goes back to the address of all
unfoldable pub frame_answered : Wire → ℕ → List ℕ → Done Module → Out
frame_answered w own f o = record {
  refusal = o.refusal;
  after = o.part;
  reply = cond (eqb (w.addressee f) w.broadcast) [] (w.replied own f o);
}

-- a frame that passes 2 to 6; the reply bears the address from before it
unfoldable pub frame_acted : Wire → List ℕ → Module → Out
frame_acted w f m = frame_answered w (w.port m).address f (judged (used_up w m) (request_of w f m))

unfoldable pub frame_handled : Wire → List ℕ → Module → Out
frame_handled w f m = if_passes (frame_refusal w (w.check_tested m) (w.port m).address f) m (frame_acted w f m)

-- with a lent buffer: too short a one is refused 1
unfoldable pub frame_call : Wire → ℕ → List ℕ → Module → Out
frame_call w room f m = cond (buffer_short room) (silent 1 m) (frame_handled w f m)
