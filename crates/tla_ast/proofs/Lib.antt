mod Light
