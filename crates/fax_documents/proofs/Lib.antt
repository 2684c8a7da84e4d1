mod LaidOut
