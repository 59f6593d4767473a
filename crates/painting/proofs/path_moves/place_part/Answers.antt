use Rattle.painting.proofs.PieceLemmas.{corners_land, point_lands}
use Rattle.painting.proofs.path_moves.place_part.Goals as goal

pub place_one-requires : goal.place_one-requires
place_one-requires c = point_lands c.args.by c.args.points c.in-Point.point c.in-Point.is c.requires

pub place_corners-requires-clause-first : goal.place_corners-requires-clause-first
place_corners-requires-clause-first c = (corners_land c.args.by c.args.points c.in-Corners.corners c.in-Corners.is c.requires).0

pub place_corners-requires-clause-second : goal.place_corners-requires-clause-second
place_corners-requires-clause-second c = (corners_land c.args.by c.args.points c.in-Corners.corners c.in-Corners.is c.requires).1
